-- The squared paper of document 02, W-202: the unit square with 4,096 squares a side. Assumes nothing.
use Rattle.std.specs.Prelude.{◌≡◌, ℕ, ◌+◌, ◌-◌, ◌*◌, Bool, ◌&&◌, T, Float}
use Rattle.std.specs.Float.Ieee.{le}
use Rattle.std.specs.Float.Ieee.Exact.{HasValue}
use Rattle.floatlaws.specs.Numbers.{f32_0, f32_1}
use Rattle.floatlaws.specs.Extrema.{signed, clamp_of}
use Rattle.floatlaws.specs.Multiples.{is_multiple, multiples_in}

-- "a multiple of 1/4096 within 0 to 1"; -0 is one, since it is 0
unfoldable pub on_paper : Float → Bool
on_paper c = is_multiple 4096 c && le f32_0 c && le c f32_1

-- c is n / 4096, with no sign but that of -0
pub record Squares (c : Float) (n : ℕ) : Type 0 where
  pub value : HasValue c (signed c) n 4096
  pub sign : T (signed c) → n ≡ 0

-- How many squares from the edge a coordinate lies: 4,096 times it. Off the paper, where no accepted call is, that of the next line towards the edge at 0, and of a coordinate outside 0 to 1 that of the
-- nearer edge; a NaN counts as 0.
unfoldable pub squares_of : Float → ℕ
squares_of c = multiples_in 4096 (clamp_of c f32_0 f32_1)

-- how far two whole numbers lie apart
abbrev pub apart : ℕ → ℕ → ℕ
apart i j = (i - j) + (j - i)

infix 80 ◌²
abbrev pub ◌² : ℕ → ℕ
a ² = a * a

-- "the sum of squares" of the leg from (ax, ay) to (bx, by), in squares of the paper: up to 2 * 4,096²
abbrev pub sum_of_squares : Float → Float → Float → Float → ℕ
sum_of_squares ax ay bx by = apart (squares_of ax) (squares_of bx) ² + apart (squares_of ay) (squares_of by) ²

-- ---- what holds of a coordinate on the paper, proved in proofs/Coordinates.antt

-- it is its number of squares over 4,096 exactly
abbrev pub PaperExact : Type 0
PaperExact = (c : Float) → T (on_paper c) → Squares c (squares_of c)

-- and clamping keeps it, so the player keeps it as it was handed in
abbrev pub PaperKept : Type 0
PaperKept = (c : Float) → T (on_paper c) → clamp_of c f32_0 f32_1 ≡ c
