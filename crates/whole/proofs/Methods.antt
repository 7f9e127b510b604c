-- std's `trunc`, `ceil` and `round` are three ways of `whole_of`. Assumes nothing.
use mathlib.Core.Path.{◌≡◌, refl, ap}
use mathlib.Core.Logic.{inl, inr}
use mathlib.Core.Bool.{Bool, true, false}
use Prim.Native.Nat.{ℕ, suc, ◌+◌, ◌*◌, ◌-◌, ◌/◌, ◌%◌, ◌≤◌, ◌<◌}
use native.Mathlib.Nat.{le_antisymm, le_of_suc-le-suc, le-div_iff_mul-le, lt_of_mul-lt-mul_right, div-add-mod', mod-lt, suc-mul, mul_left_comm, eq-zero-or-pos}
use Rattle.std.proofs.lemmas.Bool.{cases_lt}
use native.Mathlib.Omega.{arith}
use borrow.Author.Tests.{lt-ltb, le-leb, lt-leb}
use lib.Ieee.{Float, nan, inf, fin, Format, round, up, down}
use lib.Ieee.Fits.{down_pos}
use Rattle.std.specs.Float.{round_with, trunc, ceil, float_round}
use Rattle.floatlaws.specs.Whole.{to_zero, to_ceil, to_half, whole_size, whole_of}

pub trunc_is : (f : Format) (x : Float) → trunc f x ≡ whole_of f to_zero x
unfolding whole_of round_with
trunc_is f nan = refl
trunc_is f (inf s) = refl
trunc_is f (fin true m e) = refl
trunc_is f (fin false m e) = refl

-- q is the quotient of n
quotient : (n d q : ℕ) → 0 < d → q * d ≤ n → n < q * d + d → n / d ≡ q
quotient n d q h low high =
    let less : n / d * d < suc q * d = omega (arith, suc-mul q d, div-add-mod' n d) in
    le_antisymm (le_of_suc-le-suc (lt_of_mul-lt-mul_right d less)) ((le-div_iff_mul-le h).1 low)

up_size : (n d : ℕ) → 0 < d → (n + d - 1) / d ≡ whole_size to_ceil false n d
up_size n d h = elim (eq-zero-or-pos (n % d)) [
  | inl e ↦ rw e (quotient (n + d - 1) d (n / d) h (omega (arith, div-add-mod' n d)) (omega (arith, div-add-mod' n d)))
  | inr p ↦
      rw (lt-ltb 0 (n % d) p)
      (quotient (n + d - 1) d (suc (n / d)) h (omega (arith, div-add-mod' n d, suc-mul (n / d) d)) (omega (arith, div-add-mod' n d, suc-mul (n / d) d, mod-lt n h)))
]

half_size : (s : Bool) (n d : ℕ) → 0 < d → (2 * n + d) / (2 * d) ≡ whole_size to_half s n d
half_size s n d h =
    let double : n / d * (2 * d) ≡ 2 * (n / d * d) = mul_left_comm (n / d) 2 d in
    let some : 0 < 2 * d = omega arith in
    elim (cases_lt (n % d * 2) d) [
      | inl l ↦
          rw (lt-leb d (n % d * 2) l)
          (quotient (2 * n + d) (2 * d) (n / d) some (omega (arith, double, div-add-mod' n d)) (omega (arith, double, div-add-mod' n d)))
      | inr l ↦
          rw (le-leb d (n % d * 2) l)
          (quotient (2 * n + d) (2 * d) (suc (n / d)) some
          (omega (arith, double, suc-mul (n / d) (2 * d), div-add-mod' n d))
          (omega (arith, double, suc-mul (n / d) (2 * d), div-add-mod' n d, mod-lt n h)))
    ]

pub ceil_is : (f : Format) (x : Float) → ceil f x ≡ whole_of f to_ceil x
unfolding whole_of round_with
ceil_is f nan = refl
ceil_is f (inf s) = refl
ceil_is f (fin true m e) = refl
ceil_is f (fin false m e) = ap (λ n. round f false n 1) (up_size (m * up e) (down e) (down_pos e))

pub round_is : (f : Format) (x : Float) → float_round f x ≡ whole_of f to_half x
unfolding whole_of round_with
round_is f nan = refl
round_is f (inf s) = refl
round_is f (fin true m e) = ap (λ n. round f true n 1) (half_size true (m * up e) (down e) (down_pos e))
round_is f (fin false m e) = ap (λ n. round f false n 1) (half_size false (m * up e) (down e) (down_pos e))
