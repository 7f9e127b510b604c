-- An f32 below n / 2^k, n of 24 digits and no power of 2, is at most (n − 1) / 2^k. Assumes nothing.
use mathlib.Core.Path.{◌≡◌, sym, ap, ◌∙◌, subst}
use mathlib.Core.Logic.{inl, inr}
use mathlib.Core.Bool.{true, false}
use Prim.Native.Nat.{ℕ, suc, ◌+◌, ◌-◌, ◌*◌, ◌^◌, ◌≤◌, ◌<◌}
use native.Mathlib.Nat.{le_trans, le_of_eq, mul_assoc, mul-le-mul_left, mul-le-mul_right, lt_of_mul-lt-mul_right, sub-add_cancel, pow-suc}
use native.Mathlib.Omega.{arith}
use lib.Dec.{T, leb, leb→le, nleb→lt}
use lib.IntN.{ℤ, pos, negsuc}
use lib.Pow.{pow-add, pow_mono}
use lib.Ieee.{Float, nan, inf, fin, binary32, lt, le, fits}
use lib.Ieee.Fits.{fits_widens}
use Rattle.floatlaws.specs.Whole.{InUnit}
use Rattle.floatlaws.proofs.Tests.{decide}
use Rattle.floatlaws.proofs.Order.{below_says, says_le}
use Rattle.floatlaws.proofs.Unique.{fits_held}
use Rattle.floatlaws.proofs.Unit.{unit_finite, signed_zero}

-- m / 2^i, m of at most 24 digits
module _ (n k m i : ℕ) (N : 2 ^ 23 < n) (M : m < 2 ^ 24) (h : m * 2 ^ k < n * 2 ^ i) where
  is_on_grid : i ≤ k → m * 2 ^ k ≤ (n - 1) * 2 ^ i
  is_on_grid g =
      let e : 2 ^ k ≡ 2 ^ (k - i) * 2 ^ i = ap (λ (z : ℕ). 2 ^ z) (sym (sub-add_cancel g)) ∙ pow-add 2 (k - i) i in
      let f : m * 2 ^ k ≡ m * 2 ^ (k - i) * 2 ^ i = ap (λ (z : ℕ). m * z) e ∙ sym (mul_assoc m (2 ^ (k - i)) (2 ^ i)) in
      le_trans (le_of_eq f) (mul-le-mul_right (2 ^ i) (less (m * 2 ^ (k - i)) (lt_of_mul-lt-mul_right (2 ^ i) (subst (λ (z : ℕ). z < n * 2 ^ i) f h))))
    where
      less : (a : ℕ) → a < n → a ≤ n - 1
      less a h = omega arith

  finer : k < i → m * 2 ^ k ≤ (n - 1) * 2 ^ i
  finer g = le_trans (half (2 ^ k) (2 ^ suc k) (pow-suc 2 k)) (le_trans (mul-le-mul_left (2 ^ 23) (pow_mono g)) (mul-le-mul_right (2 ^ i) (less N)))
    where
      half : (a b : ℕ) → b ≡ a * 2 → m * a ≤ 2 ^ 23 * b
      half a b e = le_trans (mul-le-mul_right a (full M)) (same a b e)
        where
          full : m < 2 ^ 24 → m ≤ 2 ^ 24
          full h = omega arith

          same : (a b : ℕ) → b ≡ a * 2 → 2 ^ 24 * a ≤ 2 ^ 23 * b
          same a b e = omega arith

      less : 2 ^ 23 < n → 2 ^ 23 ≤ n - 1
      less h = omega arith

  short : m * 2 ^ k ≤ (n - 1) * 2 ^ i
  short =
      elim (decide (leb i k)) [
        | inl g ↦ is_on_grid (leb→le i k g)
        | inr g ↦ finer (nleb→lt i k g)
      ]

-- without a sign
plain_before : (n j m : ℕ) (e : ℤ) → 2 ^ 23 < n → T (fits binary32 (fin false m e)) → T (lt (fin false m e) (fin false n (negsuc j))) → T (le (fin false m e) (fin false (n - 1) (negsuc j)))
plain_before n j m (pos i) N t h =
    unfold le in says_le false false (m * 2 ^ i * 2 ^ suc j) ((n - 1) * 1 * 1)
    (less (m * 2 ^ i * 2 ^ suc j) n (below_says false false (m * 2 ^ i * 2 ^ suc j) (n * 1 * 1) (unfold lt in h)))
  where
    less : (a n : ℕ) → a + 0 < n * 1 * 1 + 0 → a + 0 ≤ (n - 1) * 1 * 1 + 0
    less a n h = omega arith
plain_before n j m (negsuc i) N t h =
    unfold le in says_le false false (m * 1 * 2 ^ suc j) ((n - 1) * 1 * 2 ^ suc i)
    (tidy (2 ^ suc j) (2 ^ suc i)
    (short n (suc j) m (suc i) N (fits_held binary32 false m (negsuc i) t).0 (under (2 ^ suc j) (2 ^ suc i) (below_says false false (m * 1 * 2 ^ suc j) (n * 1 * 2 ^ suc i) (unfold lt in h)))))
  where
    under : (a b : ℕ) → m * 1 * a + 0 < n * 1 * b + 0 → m * a < n * b
    under a b h = omega arith

    tidy : (a b : ℕ) → m * a ≤ (n - 1) * b → m * 1 * a + 0 ≤ (n - 1) * 1 * b + 0
    tidy a b h = omega arith

-- from 0 to 1
pub before : (n j : ℕ) (l : Float) → 2 ^ 23 < n → T (fits binary32 l) → InUnit l → T (lt l (fin false n (negsuc j))) → T (le l (fin false (n - 1) (negsuc j)))
before n j nan N t i h = absurd (unfold lt in h)
before n j (inf s) N t i h = absurd (unit_finite (inf s) i)
before n j (fin true m e) N t i h =
    subst (λ (y : Float). T (le y (fin false (n - 1) (negsuc j)))) (sym (signed_zero m e (fits_widens (fin true m e) t) i.0))
    (unfold le in says_le true false (0 * 1 * 2 ^ suc j) ((n - 1) * 1 * 1) (least (2 ^ suc j) (n - 1)))
  where
    least : (a b : ℕ) → 0 + 0 ≤ b * 1 * 1 + 0 * 1 * a
    least a b = omega arith
before n j (fin false m e) N t i h = plain_before n j m e N t h
