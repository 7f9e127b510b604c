-- Arrays of floats that are filled by a rule: they ascend, or lie in a range, where the rule does. Assumes nothing.
use Prim.Native.Nat.{ℕ, ◌≤◌, ◌<◌}
use native.Mathlib.Omega.{arith}
use lib.Dec.{T}
use lib.ListN.{get_or}
use lib.Ieee.{Float, nan, le, neg, of_bits}
use lib.Ieee.Scale.{finite}
use Rattle.floatlaws.specs.Numbers.{Between, f32_0, f32_1, f32_minus1}
use Rattle.floatlaws.specs.Extrema.{clamp_of}
use Rattle.floatlaws.proofs.NoNan.{Number}
use Rattle.floatlaws.proofs.Order.{between_finite}
use Rattle.floatlaws.proofs.Extrema.{clamp_bounds}
use Rattle.listlaws.proofs.Tabulation.{get_or_padded}
use Rattle.points.specs.Arrays.{floats, Ascends}

pub floats_ascend : (f : ℕ → Float) (n : ℕ) → ((i j : ℕ) → i ≤ j → j < n → T (le (f i) (f j))) → Ascends (floats f n) n
floats_ascend f n h i j p q = rw (get_or_padded f 64 f32_0 n i nan (omega arith), get_or_padded f 64 f32_0 n j nan q) (h i j p q)

pub floats_between : (f : ℕ → Float) (n : ℕ) (lo hi : Float) → ((i : ℕ) → i < n → Between lo (f i) hi) → (i : ℕ) → i < n → Between lo (get_or (floats f n) i nan) hi
floats_between f n lo hi h i q = rw (get_or_padded f 64 f32_0 n i nan q) (h i q)

-- ---- the unit square

pub zero_one : T (le f32_0 f32_1)
unfolding le of_bits
zero_one = tt

pub minus_one : T (le f32_minus1 f32_1)
unfolding le neg of_bits
minus_one = tt

-- a number clamped to 0 to 1, and to -1 to 1
pub unit_clamped : (x : Float) → Number x → Between f32_0 (clamp_of x f32_0 f32_1) f32_1
unit_clamped x number = clamp_bounds x f32_0 f32_1 number zero_one

pub bend_clamped : (x : Float) → Number x → Between f32_minus1 (clamp_of x f32_minus1 f32_1) f32_1
bend_clamped x number = clamp_bounds x f32_minus1 f32_1 number minus_one

pub unit_finite : (x : Float) → Between f32_0 x f32_1 → T (finite x)
unit_finite x h = between_finite f32_0 x f32_1 (unfold of_bits in tt) (unfold of_bits in tt) h.0 h.1
