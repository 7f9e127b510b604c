-- The limit on an increment: a finite increment that is not below zero is at most 1 once it is scaled by 0.5 / inc, and the scale is at most 1. (Rounded to
-- the nearest, a quotient at most doubles, so 0.5 / inc is at most 1 / inc.) Assumes nothing.
use mathlib.Core.Path.{◌≡◌, refl, sym, ap, ◌∙◌, subst}
use mathlib.Core.Bool.{Bool, true, false, not, cond}
use Prim.Native.Nat.{ℕ, zero, suc, ◌+◌, ◌*◌, ◌^◌, ◌≤◌, ◌<◌, zero-le}
use native.Mathlib.Nat.{le_trans, le_of_eq, zero-lt-suc, zero-mul, one-mul, mul_comm, mul_assoc, mul_right_comm, suc-mul, mul-pos, mul-le-mul_right, le_of_mul-le-mul_right}
use native.Mathlib.Omega.{arith}
use lib.Dec.{T, lit≤}
use lib.Pow.{pow_pos}
use lib.IntN.{ℤ, negsuc}
use lib.Ieee.{Float, nan, inf, fin, Format, binary64, prec, low, up, down, round, unlike, mul, div, lt, le, is_nan, of_bits}
use lib.Ieee.Exact.{HasValue}
use lib.Ieee.Fits.{up_pos, down_pos}
use lib.Ieee.Nearest.{closest}
use lib.Ieee.Order.{drop}
use lib.Ieee.Scale.{round_val, round_under, grid, finite}
use Rattle.floatlaws.proofs.Order.{below_says, le_trans_at, not_lt→le}
use Rattle.floatlaws.specs.Numbers.{f64_1}
use Rattle.clock.specs.Pace.{limit_of}
use Rattle.reach.specs.Laws.{LimitRule}
use Rattle.floatlaws.proofs.NoNan.{finite_number}
use Rattle.floatlaws.proofs.Unit.{zero_float, half_float, one_float, closest_half}
use Rattle.floatlaws.specs.Size.{Sized, Size}
use Rattle.floatlaws.proofs.Size.{div_is, sized_finite, round_sized, mul_size, size_of_le}

-- ---- rounding at most doubles

closest_twice : (a b : ℕ) → closest a b * b ≤ a * 2
closest_twice a b = go (closest a b) (closest_half a b)
  where
    step : (p s : ℕ) → s ≡ p + b → s * 2 ≤ a * 2 + b → s ≤ a * 2
    step p s e h = omega arith

    go : (q : ℕ) → q * b * 2 ≤ a * 2 + b → q * b ≤ a * 2
    go zero h = le_trans (le_of_eq (zero-mul b)) zero-le
    go (suc q) h = step (q * b) (suc q * b) (suc-mul q b) h

grid_twice : (f : Format) (a c : ℕ) → grid f a c * c ≤ a * 2 ^ low f * 2
grid_twice f a c =
    let n = a * 2 ^ low f in
    let k = drop (prec f) n c in
    let q = closest n (c * 2 ^ k) in
    le_trans (le_of_eq (mul_assoc q (2 ^ k) c ∙ ap (λ (z : ℕ). q * z) (mul_comm (2 ^ k) c))) (closest_twice n (c * 2 ^ k))

-- x is at most 2 * a / c
abbrev Twice : Float → ℕ → ℕ → Type 0
Twice nan a c = ⊥
Twice (inf s) a c = ⊥
Twice (fin s n e) a c = n * up e * c ≤ a * 2 * down e

value_twice : (x : Float) (g l a c : ℕ) → 0 < l → HasValue x false g l → g * c ≤ a * l * 2 → Twice x a c
value_twice nan g l a c L v h = v
value_twice (inf s) g l a c L v h = v
value_twice (fin s n e) g l a c L v h =
    le_of_mul-le-mul_right
    (le_trans (le_of_eq (mul_right_comm (n * up e) c l ∙ ap (λ (z : ℕ). z * c) v.1 ∙ mul_right_comm g (down e) c))
    (le_trans (mul-le-mul_right (down e) h) (le_of_eq (ap (λ (z : ℕ). z * down e) (mul_right_comm a l 2) ∙ mul_right_comm (a * 2) l (down e)))))
    L

round_twice : (a c : ℕ) → T (finite (round binary64 false a c)) → Twice (round binary64 false a c) a c
round_twice a c p = value_twice (round binary64 false a c) (grid binary64 a c) (2 ^ low binary64) a c (pow_pos (low binary64)) (round_val binary64 a c (round_under binary64 a c p)) (grid_twice binary64 a c)

-- ---- the scale 0.5 / inc

-- a float and at most twice what a half divided by it is
product_in : (m : ℕ) (e : ℤ) (q : Float) → Twice q (1 * 1 * down e) (m * up e * 2) → Sized (mul binary64 (fin false m e) q) 1
unfolding mul
product_in m e nan w = absurd w
product_in m e (inf s) w = absurd w
product_in m e (fin s n d) w =
    round_sized (unlike false s) (m * up e * (n * up d)) (down e * down d) 1 (mul-pos (down_pos e) (down_pos d))
    (halved (m * up e * (n * up d)) (down e * down d) (le_trans (le_of_eq (left (m * up e) (n * up d))) (le_trans w (le_of_eq (right (down e) (down d)))))) (lit≤ tt)
  where
    halved : (x y : ℕ) → x * 2 ≤ y * 2 → x ≤ 1 * y
    halved x y h = omega arith

    left : (x y : ℕ) → x * y * 2 ≡ y * (x * 2)
    left x y = mul_right_comm x y 2 ∙ mul_comm (x * 2) y

    right : (x y : ℕ) → 1 * 1 * x * 2 * y ≡ x * y * 2
    right x y = ap (λ (z : ℕ). z * 2 * y) (one-mul x) ∙ mul_right_comm x 2 y

-- above a half
above_half : (inc : Float) → T (finite inc) → T (lt half_float inc) → Size (div binary64 half_float inc) 1 × Size (mul binary64 inc (div binary64 half_float inc)) 1
above_half nan p h = absurd p
above_half (inf s) p h = absurd p
above_half (fin true m e) p h = absurd (unfold lt in h)
above_half (fin false zero e) p h = absurd (none (up e) (down e) (below_says false false (1 * 1 * down e) (0 * up e * 2) (unfold lt in h)))
  where
    none : (u d : ℕ) → 1 * 1 * d + 0 < 0 * u * 2 + 0 → ⊥
    none u d h = omega arith
above_half (fin false (suc m) e) p h =
    let b = suc m * up e in
    let d = down e in
    let q = round binary64 false (1 * 1 * d) (b * 2) in
    let S = round_sized false (1 * 1 * d) (b * 2) 1 (mul-pos (mul-pos (zero-lt-suc m) (up_pos e)) (zero-lt-suc 1)) (under b d (below_says false false (1 * 1 * d) (b * 2) (unfold lt in h))) (lit≤ tt) in
    subst (λ (q : Float). Size q 1 × Size (mul binary64 (fin false (suc m) e) q) 1) (sym (div_is false false 1 m (negsuc 0) e))
    (record { sized = S }, record { sized = product_in (suc m) e q (round_twice (1 * 1 * d) (b * 2) (sized_finite q 1 S)) })
  where
    under : (b d : ℕ) → 1 * 1 * d + 0 < b * 2 + 0 → 1 * 1 * d ≤ 1 * (b * 2)
    under b d h = omega arith

one_size : Size f64_1 1
unfolding of_bits
one_size = record { sized = lit≤ tt }

-- the scale, and the increment by it
pub limit_in : LimitRule
unfolding limit_of of_bits
limit_in inc p h = go (lt half_float inc) (λ (k : T (lt half_float inc)). above_half inc p k) (λ (k : T (not (lt half_float inc))). small_size inc h (not_lt→le half_float inc (unfold is_nan in tt) (finite_number inc p) k))
  where
    small_size : (x : Float) → T (le zero_float x) → T (le x half_float) → Size x 1
    small_size x l u = size_of_le one_float 1 (refl, refl) l (le_trans_at x half_float one_float u (unfold le in tt))

    go : (b : Bool) → (T b → Size (div binary64 half_float inc) 1 × Size (mul binary64 inc (div binary64 half_float inc)) 1) → (T (not b) → Size inc 1)
        → Size (cond b (div binary64 half_float inc) f64_1) 1 × Size (mul binary64 inc (cond b (div binary64 half_float inc) f64_1)) 1
    go true x y = x tt
    go false x y = (one_size, mul_size (lit≤ tt) (y tt) one_size)
