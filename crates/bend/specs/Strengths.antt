-- The strength of a bend, and how near it comes to 2 ^ (4 × curve). Assumes nothing.
use Rattle.std.specs.Prelude.{ℕ, ◌+◌, ◌-◌, ◌*◌, ◌/◌, ◌^◌, ◌<◌, min, Bool, true, false, cond, Float}
use Rattle.std.specs.Float.{nan, inf, fin}
use Rattle.std.specs.Float.Ieee.{up, down}
use Rattle.std.specs.Float.Ieee.Exact.{HasValue}
use Rattle.floatlaws.specs.Numbers.{f32}
use Rattle.bend.specs.Entries.{entry_of}
use Rattle.bend.specs.Grid.{clamped_curve, grid_index}

-- The octaves from 1/16 to 16, 256 indexes each. The last one has its upper end too, the curve 1, which has entry 256.
abbrev pub octave_of : ℕ → ℕ
octave_of i = min (i / 256) 7

-- "the entry divided by a power of two, rounded to the nearest f32, ties to even". At the index i = 256 × q + k of octave q, 2 ^ (4 × curve) = 2 ^ (i / 256 - 4) = 2 ^ (30 + k / 256) / 2 ^ (34 - q).
unfoldable pub strength_at : ℕ → Float
strength_at i = f32 (entry_of (i - 256 * octave_of i)) (2 ^ (34 - octave_of i))

unfoldable pub strength_of : Float → Float
strength_of curve = strength_at (grid_index (clamped_curve curve))

-- ---- "The strength differs from 2^(4 × curve) by less than one part in 2^23, stated by 256th powers of whole numbers."

-- a / c differs from the 256th root of t / u by less than one part in 2 ^ 23: 2 ^ 23 × a / c lies between 2 ^ 23 - 1 and 2 ^ 23 + 1 times that root
abbrev pub Close : ℕ → ℕ → ℕ → ℕ → Type 0
Close t u a c = (((2 ^ 23 - 1) * c) ^ 256 * t < (2 ^ 23 * a) ^ 256 * u) × ((2 ^ 23 * a) ^ 256 * u < ((2 ^ 23 + 1) * c) ^ 256 * t)

abbrev pub Near : ℕ → ℕ → Float → Type 0
Near t u nan = ⊥
Near t u (inf s) = ⊥
Near t u (fin true m e) = ⊥
Near t u (fin false m e) = Close t u (m * up e) (down e)

-- Of every curve on the grid, which clamped is n / 1024 or, where s, -n / 1024 (`MultipleRule`): the 256th power of 2 ^ (4 × curve) is 2 ^ n / 1 or 1 / 2 ^ n.
abbrev pub StrengthRule : Type 0
StrengthRule = (curve : Float) (s : Bool) (n : ℕ) → HasValue (clamped_curve curve) s n 1024 → Near (cond s 1 (2 ^ n)) (cond s (2 ^ n) 1) (strength_of curve)
