-- When in the cycle each point of a path is reached. Assumes nothing.
use Rattle.std.specs.Prelude.{ℕ, zero, suc, ◌-◌, ◌<◌, Bool, cond, List, ltb, get_or, Float}
use Rattle.std.specs.Float.{nan}
use Rattle.std.specs.Float.Ieee.{lt}
use Rattle.floatlaws.specs.Numbers.{Between, f32_0, f32_2}
use Rattle.floatlaws.specs.Rounded.{◌+₃₂◌, ◌÷₃₂◌, to_f32}
use Rattle.listlaws.specs.Tables.{tabulate, padded}

-- How many segments a path of `len` points has: a closed one goes back to its first point, and one point has none.
unfoldable pub segments_of : ℕ → Bool → ℕ
segments_of len closed = cond (ltb len 2) 0 (cond closed len (len - 1))

-- the first j legs together
unfoldable pub sum_to : List Float → ℕ → Float
sum_to legs zero = f32_0
sum_to legs (suc j) = sum_to legs j +₃₂ get_or legs j nan

-- the share of the total; with no total, j of n; with no segment, 0
unfoldable pub share_of : Float → Float → ℕ → ℕ → Float
share_of sum total j n = cond (lt f32_0 total) (sum ÷₃₂ total) (cond (ltb 0 n) (to_f32 j ÷₃₂ to_f32 n) f32_0)

-- when the first j of n legs have been travelled
unfoldable pub time_at : List Float → ℕ → ℕ → Float
time_at legs n j = share_of (sum_to legs j) (sum_to legs n) j n

-- the times of the n segments' ends, the start included, and zeros up to 65
unfoldable pub times_of : List Float → ℕ → List Float
times_of legs n = padded 65 f32_0 (tabulate (time_at legs n) (suc n))

-- ---- what the laws speak of

-- each of the first n legs is 0 to 2 long
abbrev pub LegsIn : List Float → ℕ → Type 0
LegsIn legs n = (k : ℕ) → k < n → Between f32_0 (get_or legs k nan) f32_2
