-- `last_where` looked for from the last place down, and what it says of the places on either side. Assumes nothing.
use mathlib.Core.Path.{◌≡◌, refl, sym, subst}
use mathlib.Core.Logic.{inl, inr}
use mathlib.Core.Bool.{Bool, true, false, not, cond}
use Prim.Native.Nat.{ℕ, zero, suc, ◌-◌, ◌≤◌, ◌<◌}
use native.Mathlib.Nat.{le_refl, eq-or-lt_of_le, le_of_suc-le-suc, suc_inj}
use native.Mathlib.Omega.{arith}
use lib.Dec.{T, eqb}
use lib.Ieee.Bits.{is_true, is_false}
use borrow.Author.Tests.{ne_eqb}
use Rattle.listlaws.specs.Tables.{last_where}

-- ---- a place that is not the first

pub back : (k : ℕ) → suc k - 1 ≡ k
back k = omega arith

pub later : (k : ℕ) → eqb (suc k) 0 ≡ false
later k = ne_eqb (suc k) 0 (λ (e : suc k ≡ 0). omega arith)

module _ (t : ℕ → Bool) where
  -- ---- one step down

  pub last_found : (i : ℕ) → 1 ≤ i → t (i - 1) ≡ true → last_where t i ≡ i
  unfolding last_where
  last_found zero h e = let z : ⊥ = omega arith in absurd z
  last_found (suc k) h e = rw (rw (back k) at e)

  pub last_passed : (i : ℕ) → 1 ≤ i → t (i - 1) ≡ false → last_where t i ≡ last_where t (i - 1)
  unfolding last_where
  last_passed zero h e = let z : ⊥ = omega arith in absurd z
  last_passed (suc k) h e = rw (rw (back k) at e, back k)

  pub last_none : (i : ℕ) → i ≤ 0 → last_where t i ≡ i
  unfolding last_where
  last_none zero h = refl
  last_none (suc k) h = let z : ⊥ = omega arith in absurd z

  -- ---- the places on either side

  pub last_le : (n : ℕ) → last_where t n ≤ n
  unfolding last_where
  last_le zero = le_refl 0
  last_le (suc n) = go (t n) (last_le n)
    where
      go : (b : Bool) → last_where t n ≤ n → cond b (suc n) (last_where t n) ≤ suc n
      go true h = le_refl (suc n)
      go false h = omega arith

  pub last_at : (n k : ℕ) → last_where t n ≡ suc k → T (t k)
  unfolding last_where
  last_at zero k h = let z : ⊥ = omega arith in absurd z
  last_at (suc n) k h = go (t n) refl (last_at n k) h
    where
      go : (b : Bool) → t n ≡ b → (last_where t n ≡ suc k → T (t k)) → cond b (suc n) (last_where t n) ≡ suc k → T (t k)
      go true e ih q = subst (λ (m : ℕ). T (t m)) (suc_inj q) (subst T (sym e) tt)
      go false e ih q = ih q

  pub last_after : (n k : ℕ) → last_where t n ≤ k → k < n → T (not (t k))
  unfolding last_where
  last_after zero k h l = let z : ⊥ = omega arith in absurd z
  last_after (suc n) k h l = go (t n) refl (last_after n k) h
    where
      go : (b : Bool) → t n ≡ b → (last_where t n ≤ k → k < n → T (not (t k))) → cond b (suc n) (last_where t n) ≤ k → T (not (t k))
      go true e ih q = let z : ⊥ = omega arith in absurd z
      go false e ih q =
          elim (eq-or-lt_of_le (le_of_suc-le-suc l)) [
            | inl s ↦ subst (λ (m : ℕ). T (not (t m))) (sym s) (subst (λ (b : Bool). T (not b)) (sym e) tt)
            | inr m ↦ ih q m
          ]

  pub last_unique : (n i : ℕ) → i ≤ n → ((k : ℕ) → i ≡ suc k → T (t k)) → ((k : ℕ) → i ≤ k → k < n → T (not (t k))) → last_where t n ≡ i
  unfolding last_where
  last_unique zero i h a b = omega arith
  last_unique (suc n) i h a b =
      elim (eq-or-lt_of_le h) [
        | inl e ↦ rw (is_true (t n) (a n e)) (sym e)
        | inr l ↦ rw (is_false (t n) (b n (le_of_suc-le-suc l) (le_refl (suc n)))) (last_unique n i (le_of_suc-le-suc l) a (λ (k : ℕ) (p : i ≤ k) (q : k < n). b k p (omega arith)))
      ]

  pub last_same : (u : ℕ → Bool) (n : ℕ) → ((k : ℕ) → k < n → t k ≡ u k) → last_where t n ≡ last_where u n
  unfolding last_where
  last_same u zero h = refl
  last_same u (suc n) h = rw (h n (le_refl (suc n)), last_same u n (λ (k : ℕ) (l : k < n). h k (omega arith)))
