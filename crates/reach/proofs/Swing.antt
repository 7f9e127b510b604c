-- A swung count is finite: swing's first share lies from 1/2 to 3/4, so no quotient of `swung_of` is more than twice its count. Assumes nothing.
use Rattle.std.specs.Prelude.{None, Option, Some}
use mathlib.Core.Path.{◌≡◌, refl, subst}
use mathlib.Core.Bool.{Bool, true, false, not, ◌&&◌, cond}
use Prim.Native.Nat.{ℕ, suc, ◌+◌, ◌*◌, ◌/◌, ◌%◌, ◌^◌, ◌≤◌, zero-le}
use native.Mathlib.Nat.{le_trans, zero-lt-suc, mul-pos, div-mul-le_self, le_of_mul-le-mul_right}
use native.Mathlib.Omega.{arith}
use lib.Dec.{T, ltb, lit≤}
use lib.IntN.{negsuc}
use lib.Ieee.{Float, nan, inf, fin, binary64, up, down, round, unlike, add, sub, mul, div, lt, le, fits, is_nan, of_bits}
use lib.Ieee.Fits.{down_pos, add-fits}
use lib.Ieee.Positive.{positive, between, mul_mono}
use Rattle.floatlaws.specs.Extrema.{clamp_of}
use Rattle.floatlaws.specs.Whole.{whole_of, whole_size, to_floor}
use Rattle.floatlaws.proofs.Order.{le_trans_at}
use Rattle.floatlaws.proofs.Mono.{add_mono, sub_mono, round_le}
use Rattle.floatlaws.specs.Numbers.{f32_0, f32_1}
use Rattle.clock.specs.Pace.{first_of, swing_of}
use Rattle.position.specs.Position.{floor_of, into_pair, pairs_of, swung_of, swung_by}
use Rattle.clock.specs.declared.pace.Cycles.TheVariants.{PerBeat, PerSecond}
use Rattle.floatlaws.proofs.Unit.{zero_float, half_float, one_float, two_float}
use Rattle.floatlaws.specs.Size.{Sized, Size, AtLeast}
use Rattle.floatlaws.proofs.Size.{size_finite, size_more, add_size, sub_size, mul_size, div_size, size_of_le, round_sized}
use Rattle.floatlaws.proofs.Sign.{NonNeg, nonneg_le, mul_nonneg, at_least_of, clamp_nonneg, clamp_size}
use Rattle.reach.specs.Bounds.{ShareIn}
use Rattle.reach.specs.Laws.{SwingRule, SwungIn}

abbrev quarter_float : Float
quarter_float = fin false 1 (negsuc 1)

-- 3 / 4 and 3 / 2
abbrev most_first : Float
most_first = fin false 3 (negsuc 1)

abbrev most_share : Float
most_share = fin false 3 (negsuc 0)

-- ---- the first share

-- a quarter of at most 1
quarter_le : (x : Float) → Sized x 1 → T (le (mul binary64 quarter_float x) quarter_float)
unfolding mul
quarter_le nan h = absurd h
quarter_le (inf s) h = absurd h
quarter_le (fin s m e) h =
    subst (λ (z : Float). T (le (round binary64 (unlike false s) (1 * 1 * (m * up e)) (4 * down e)) z)) exact (go s)
  where
    exact : round binary64 false 1 4 ≡ quarter_float
    exact = unfold round in refl

    share : (n d : ℕ) → n ≤ 1 * d → 1 * 1 * n * 4 + 0 ≤ 1 * (4 * d) + 0
    share n d h = omega arith

    go : (s : Bool) → T (le (round binary64 (unlike false s) (1 * 1 * (m * up e)) (4 * down e)) (round binary64 false 1 4))
    go true = round_le binary64 true false (1 * 1 * (m * up e)) (4 * down e) 1 4 (mul-pos (zero-lt-suc 3) (down_pos e)) (zero-lt-suc 3) zero-le
    go false = round_le binary64 false false (1 * 1 * (m * up e)) (4 * down e) 1 4 (mul-pos (zero-lt-suc 3) (down_pos e)) (zero-lt-suc 3) (share (m * up e) (down e) h)

first_in : (amount : Float) → T (not (is_nan amount)) → ShareIn (first_of amount)
unfolding of_bits
first_in amount n =
    let x = clamp_of amount f32_0 f32_1 in
    let S = clamp_size amount f32_0 f32_1 1 n (refl, refl) (unfold le in tt) (unfold le in tt) in
    let N = clamp_nonneg amount f32_0 f32_1 n tt (unfold le in tt) (unfold le in tt) in
    let q = mul binary64 quarter_float x in
    let Q : Size q 1 = mul_size (lit≤ tt) quarter_size S in
    let F = size_finite Q in
    let L = nonneg_le (mul_nonneg quarter_nonneg N F) in (
      le_trans_at half_float (add binary64 half_float zero_float) (add binary64 half_float q) (unfold le add in tt) (add_mono binary64 half_float half_float zero_float q tt tt tt F (unfold le in tt) L),
      le_trans_at (add binary64 half_float q) (add binary64 half_float quarter_float) most_first (add_mono binary64 half_float half_float q quarter_float tt tt F tt (unfold le in tt) (quarter_le x S.sized)) (unfold le add in tt),
    )
  where
    quarter_size : Size quarter_float 1
    quarter_size = record { sized = lit≤ tt }

    quarter_nonneg : NonNeg quarter_float
    quarter_nonneg = record { not_below = tt }

pub swing_in : SwingRule
unfolding swing_of
swing_in (PerBeat p) true amount n = first_in amount n
swing_in (PerSecond h) true amount n = tt
swing_in (PerBeat p) false amount n = tt
swing_in (PerSecond h) false amount n = tt

-- ---- a swung count

pub floor_size : {x : Float} {n : ℕ} → n + 1 ≤ 2 ^ 53 → Size x n → Size (floor_of x) (n + 1)
floor_size {x} {n} k h = record { sized = go x h.sized }
  where
    one_more : (b : Bool) (q : ℕ) → q ≤ n → cond b (suc q) q ≤ (n + 1) * 1
    one_more true q h = omega arith
    one_more false q h = omega arith

    go : (x : Float) → Sized x n → Sized (whole_of binary64 to_floor x) (n + 1)
    go nan h = absurd h
    go (inf s) h = absurd h
    go (fin s m e) h =
        unfold whole_of in round_sized s (whole_size to_floor s (m * up e) (down e)) 1 (n + 1) (zero-lt-suc 0)
        (one_more (s && ltb 0 (m * up e % down e)) (m * up e / down e) (le_of_mul-le-mul_right (le_trans (div-mul-le_self (m * up e) (down e)) h) (down_pos e))) k

two_size : Size two_float 2
two_size = record { sized = lit≤ tt }

half_size : Size half_float 1
half_size = record { sized = lit≤ tt }

one_size : Size one_float 1
one_size = record { sized = lit≤ tt }

-- the first share of the pair's two cycles, and the second's
module _ (first : Float) (i : ShareIn first) where
  abbrev share : Float
  share = mul binary64 two_float first

  share_positive : T (positive first)
  share_positive = between half_float first most_first tt tt i.0 i.1

  share_from : T (le one_float share)
  share_from = le_trans_at one_float (mul binary64 two_float half_float) share (unfold le mul in tt) (mul_mono binary64 two_float two_float half_float first tt tt tt share_positive (unfold le in tt) i.0)

  share_to : T (le share most_share)
  share_to = le_trans_at share (mul binary64 two_float most_first) most_share (mul_mono binary64 two_float two_float first most_first tt tt share_positive tt (unfold le in tt) i.1) (unfold le mul in tt)

  share_size : Size share 2
  share_size = size_of_le two_float 2 (refl, refl) (le_trans_at zero_float one_float share (unfold le in tt) share_from) (le_trans_at share most_share two_float share_to (unfold le in tt))

  share_least : AtLeast share 1 1
  share_least = at_least_of one_float (zero-lt-suc 0) (zero-lt-suc 0) (refl, refl) (size_finite share_size) share_from

  rest_least : AtLeast (sub binary64 two_float share) 1 2
  rest_least =
      at_least_of half_float (zero-lt-suc 0) (zero-lt-suc 1) (refl, refl) (size_finite (sub_size {a = 2} {b = 2} (lit≤ tt) two_size share_size))
      (le_trans_at half_float (sub binary64 two_float most_share) (sub binary64 two_float share) (unfold le sub in tt) (sub_mono binary64 two_float two_float most_share share tt tt tt (size_finite share_size) (unfold le in tt) share_to))

swung_size : (c first : Float) → Size c (2 ^ 46) → ShareIn first → Size (swung_of c first) (2 ^ 50)
unfolding swung_of into_pair of_bits
swung_size c first C i =
    let a = share first i in
    let P : Size (pairs_of c) (2 ^ 47 + 2) = mul_size {a = 2} {b = 2 ^ 46 + 1} (lit≤ tt) two_size (floor_size (lit≤ tt) (mul_size {a = 2 ^ 46} {b = 1} (lit≤ tt) C half_size)) in
    let r = sub binary64 c (pairs_of c) in
    let R : Size r (2 ^ 48) = size_more (lit≤ tt) (sub_size {a = 2 ^ 46} {b = 2 ^ 47 + 2} (lit≤ tt) C P) in
    let near : Size (div binary64 r a) (2 ^ 48) = div_size (2 ^ 48) (zero-lt-suc 0) (lit≤ tt) (lit≤ tt) R (share_least first i) in
    let over : Size (sub binary64 r a) (2 ^ 48 + 2) = sub_size (lit≤ tt) R (share_size first i) in
    let rest : Size (div binary64 (sub binary64 r a) (sub binary64 two_float a)) (2 ^ 49 + 4) = div_size (2 ^ 49 + 4) (zero-lt-suc 0) (lit≤ tt) (lit≤ tt) over (rest_least first i) in
    let far : Size (add binary64 one_float (div binary64 (sub binary64 r a) (sub binary64 two_float a))) (2 ^ 49 + 5) = add_size {a = 1} {b = 2 ^ 49 + 4} (lit≤ tt) one_size rest in
    size_more (lit≤ tt) (add_size {a = 2 ^ 47 + 2} {b = 2 ^ 49 + 5} (lit≤ tt) P (either (lt r a) (size_more (lit≤ tt) near) far))
  where
    either : (b : Bool) {x y : Float} {n : ℕ} → Size x n → Size y n → Size (cond b x y) n
    either true h k = h
    either false h k = k

pub swung_in : SwungIn
swung_in None c C i = size_more (lit≤ tt) C
swung_in (Some first) c C i = swung_size c first C i

pub swung_fits : (w : Option Float) (c : Float) → T (fits binary64 c) → T (fits binary64 (swung_by w c))
swung_fits None c t = t
swung_fits (Some first) c t = unfold swung_of in add-fits binary64 (pairs_of c) _
