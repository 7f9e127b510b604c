-- Two floats that a format holds and that differ have a difference that is not zero: the smaller from the larger is above zero. Assumes nothing.
use mathlib.Core.Path.{refl, sym, subst}
use mathlib.Core.Bool.{true, false}
use Prim.Native.Nat.{ℕ, ◌+◌, ◌-◌, ◌*◌, ◌^◌, ◌≤◌, ◌<◌}
use native.Mathlib.Nat.{le_of_lt, le_trans, le_of_eq, mul-pos, suc-mul, one-mul, mul-le-mul_right, lt_of_mul-lt-mul_right}
use native.Mathlib.Omega.{arith}
use lib.Dec.{T, ltb→lt}
use lib.Pow.{pow_pos}
use lib.IntN.{ℤ, pos}
use lib.Ieee.{Float, nan, inf, fin, binary64, low, round, sub, lt, le, fits}
use lib.Ieee.Exact.{HasValue}
use lib.Ieee.Order.{round_mono}
use Rattle.floatlaws.proofs.Order.{lt_of_lt_of_le_at}
use Rattle.floatlaws.proofs.Unique.{fits_held, held_units}
use Rattle.floatlaws.proofs.Unit.{zero_float, one_float, signed_zero, less_is}
use Rattle.floatlaws.proofs.Values.{lt_by_value}

-- the smallest float above zero
least : T (lt zero_float (round binary64 false 1 (2 ^ 1074)))
unfolding lt round
least = tt

pub less_above : (m : ℕ) (e : ℤ) (n : ℕ) (g : ℤ) → T (fits binary64 (fin false m e)) → T (fits binary64 (fin false n g)) → T (lt (fin false m e) (fin false n g))
    → T (lt zero_float (sub binary64 (fin false n g) (fin false m e)))
less_above m e n g s t h =
    let x = fin false m e in
    let y = fin false n g in
    let L = 2 ^ low binary64 in
    let p = held_units binary64 m e (fits_held binary64 false m e s) in
    let q = held_units binary64 n g (fits_held binary64 false n g t) in
    let B = m * 2 ^ p.0 in
    let A = n * 2 ^ q.0 in
    let LP : 0 < L = pow_pos (low binary64) in
    let v : HasValue x false B L = (refl, p.2) in
    let w : HasValue y false A L = (refl, q.2) in
    let k : B * L < A * L = ltb→lt (B * L) (A * L) (subst T (lt_by_value x y false false B L A L LP LP v w) h) in
    subst (λ (z : Float). T (lt zero_float z)) (sym (less_is y x A L B L LP LP w v (le_of_lt k)))
    (lt_of_lt_of_le_at zero_float (round binary64 false 1 L) (round binary64 false (A * L - B * L) (L * L)) least
    (round_mono binary64 1 L (A * L - B * L) (L * L) LP (mul-pos LP LP)
    (le_trans (le_of_eq (one-mul (L * L))) (mul-le-mul_right L (gap (A * L) (B * L) L (le_trans (le_of_eq (sym (suc-mul B L))) (mul-le-mul_right L (lt_of_mul-lt-mul_right L k))))))))
  where
    gap : (a b l : ℕ) → b + l ≤ a → l ≤ a - b
    gap a b l h = omega arith

-- from 1, of a float of 0 or more
pub one_less_above : (x : Float) → T (fits binary64 x) → T (le zero_float x) → T (lt x one_float) → T (lt zero_float (sub binary64 one_float x))
one_less_above nan t h k = absurd (unfold le in h)
one_less_above (inf true) t h k = absurd (unfold le in h)
one_less_above (inf false) t h k = absurd (unfold lt in k)
one_less_above (fin true m e) t h k = subst (λ (z : Float). T (lt zero_float (sub binary64 one_float z))) (sym (signed_zero m e t h)) (unfold lt sub in tt)
one_less_above (fin false m e) t h k = less_above m e 1 (pos 0) t (unfold fits in tt) k
