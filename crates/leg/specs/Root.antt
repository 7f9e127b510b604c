-- The root of a sum of squares n over 4,096, as an f32: document 02, W-202. Assumes nothing.
use Rattle.std.specs.Prelude.{◌≡◌, ℕ, zero, suc, ◌+◌, ◌-◌, ◌*◌, ◌/◌, ◌^◌, ◌<◌, ◌≤◌, false, cond, T, ◌⊎◌, ◌==◌, from_bits, nat_le, Float}
use Rattle.std.specs.Int.Count.{count_leading_zeros}
use Rattle.std.specs.Float.{binary32}
use Rattle.std.specs.Float.Ieee.{fits, le}
use Rattle.std.specs.Float.Ieee.Exact.{HasValue}
use Rattle.floatlaws.specs.Numbers.{Between, f32, f32_0, f32_2}
use Rattle.leg.specs.Paper.{on_paper, Squares, apart, ◌², sum_of_squares}

-- ---- "the f32 nearest to the root of the sum of squares, ties to even, judged by integer squares"

-- x is an f32 that is not negative, and a of the smallest ones, which are 2 ^ -149 each
abbrev pub Units : Float → ℕ → Type 0
Units x a = T (fits binary32 x) × HasValue x false a (2 ^ 149)

-- In these units the square of the root over 4,096 is n * 4 ^ 137. The lower one of two f32s is nearer to the root where the root lies below their middle, so where twice the root is less than the
-- two together; the upper one, where it lies above. r is nearer than every other f32: a negative one is farther than 0. As no other is as near either, there is never a tie for "ties to even" to settle.
pub record NearestRoot (n : ℕ) (r : Float) : Type 0 where
  pub units : ℕ
  pub held : Units r units
  pub above : (x : Float) (b : ℕ) → Units x b → units < b → 4 * (n * 4 ^ 137) < (units + b) ²
  pub below : (x : Float) (b : ℕ) → Units x b → b < units → (units + b) ² < 4 * (n * 4 ^ 137)

-- ---- how it is worked out: a significand m of 24 digits, over a power of two

-- by so many fours n comes to 47 or 48 digits, and its root to 24
abbrev pub scale_of : ℕ → ℕ
scale_of n = (count_leading_zeros 64 n - 16) / 2

-- m is the whole number nearest to half the root of y
abbrev pub Half : ℕ → ℕ → Type 0
Half y m = ((2 * m - 1) ² ≤ y) × (y < (2 * m + 1) ²)

-- such an m by halving: the last of the 2 ^ k numbers from lo on with (2 m - 1)² ≤ y
unfoldable pub halved : ℕ → ℕ → ℕ → ℕ
halved zero lo y = lo
halved (suc k) lo y = halved k (cond (nat_le ((2 * (lo + 2 ^ k) - 1) ²) y) (lo + 2 ^ k) lo) y

unfoldable pub significand_of : ℕ → ℕ
significand_of y = halved 24 (2 ^ 23) y

-- m / 2 ^ (scale + 12), by its bit pattern
unfoldable pub root_of : ℕ → Float
root_of n = cond (n == 0) f32_0 (from_bits binary32 ((137 - scale_of n) * 2 ^ 23 + significand_of (4 * (n * 4 ^ scale_of n))))

-- the rule: it is the nearest, and no other f32 is; up to the diagonal of the paper
abbrev pub RootRule : Type 0
RootRule = (n : ℕ) → n ≤ 2 ^ 25 → NearestRoot n (root_of n) × ((r : Float) → NearestRoot n r → r ≡ root_of n)

-- "ties to even" has nothing to settle: the root of 4 * z, halved, is never half way between two whole numbers, as the square of an odd number is odd
abbrev pub NoTie : Type 0
NoTie = (z m : ℕ) → 0 < m → Half (4 * z) m → (2 * m - 1) ² < 4 * z

-- the root by its significand: m has 24 digits, or is the next power of two, and the root is m / 2 ^ (s + 12), with 4 * n * 4 ^ s strictly between (2 m - 1)² and (2 m + 1)²
pub record BySignificand (n s m : ℕ) (r : Float) : Type 0 where
  pub digits : (2 ^ 23 ≤ m) × (m ≤ 2 ^ 24)
  pub low : (2 * m - 1) ² < 4 * (n * 4 ^ s)
  pub high : 4 * (n * 4 ^ s) < (2 * m + 1) ²
  pub value : HasValue r false m (2 ^ (s + 12))

abbrev pub SignificandRule : Type 0
SignificandRule = (n : ℕ) → 0 < n → n ≤ 2 ^ 25 → BySignificand n (scale_of n) (significand_of (4 * (n * 4 ^ scale_of n))) (root_of n)

-- ---- a leg

-- from (ax, ay) to (bx, by)
abbrev pub leg_of : Float → Float → Float → Float → Float
leg_of ax ay bx by = root_of (sum_of_squares ax ay bx by)

-- what the code promises of a leg with the sum of squares n
pub record IsLeg (n : ℕ) (r : Float) : Type 0 where
  pub is : r ≡ root_of n
  pub nearest : NearestRoot n r

-- r is the leg from (ax, ay) to (bx, by), which lie so many squares of the paper from its edges
pub record LegBetween (ax ay bx by r : Float) : Type 0 where
  pub from_x : ℕ
  pub from_y : ℕ
  pub to_x : ℕ
  pub to_y : ℕ
  pub from : Squares ax from_x × Squares ay from_y
  pub to : Squares bx to_x × Squares by to_y
  pub nearest : NearestRoot (apart from_x to_x ² + apart from_y to_y ²) r

-- of every leg: on the paper it is the leg between its ends
abbrev pub LegRule : Type 0
LegRule = (ax ay bx by : Float) → T (on_paper ax) → T (on_paper ay) → T (on_paper bx) → T (on_paper by) → LegBetween ax ay bx by (leg_of ax ay bx by)

-- wherever its ends are it lies within 0 to 2
abbrev pub LegIn : Type 0
LegIn = (ax ay bx by : Float) → Between f32_0 (leg_of ax ay bx by) f32_2

-- and it is 0 or at least one square
abbrev pub LegLeast : Type 0
LegLeast = (ax ay bx by : Float) → (leg_of ax ay bx by ≡ f32_0) ⊎ T (le (f32 1 4096) (leg_of ax ay bx by))
