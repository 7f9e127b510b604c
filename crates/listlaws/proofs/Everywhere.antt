-- A rule of a list, proved of all its elements by one test that antt computes, one element after the other. Assumes nothing.
use mathlib.Core.Path.{sym, ◌∙◌, subst}
use mathlib.Core.Bool.{Bool, true, ◌&&◌}
use mathlib.Core.List.{List, [], ◌∷◌}
use Prim.Native.Nat.{ℕ, zero, suc, ◌+◌, ◌<◌}
use native.Mathlib.Nat.{add-zero, zero-add, add-suc, suc-add, le_of_suc-le-suc, not-suc-le-zero}
use lib.Dec.{T}
use lib.Ieee.Fits.{and_l, and_r}
use lib.ListN.{length, get_or}

module _ {A : Type 0} (f : ℕ → A → Bool) where
  -- the test passes at each element and its place, counted from i
  abbrev pub everywhere : ℕ → List A → Bool
  everywhere i [] = true
  everywhere i (x ∷ l) = f i x && everywhere (suc i) l

  from : (d : A) (l : List A) (i : ℕ) → T (everywhere i l) → (k : ℕ) → k < length l → T (f (i + k) (get_or l k d))
  from d [] i t k h = absurd (not-suc-le-zero h)
  from d (x ∷ l) i t zero h = subst (λ (n : ℕ). T (f n x)) (sym (add-zero i)) (and_l (f i x) (everywhere (suc i) l) t)
  from d (x ∷ l) i t (suc k) h =
      subst (λ (n : ℕ). T (f n (get_or l k d))) (suc-add i k ∙ sym (add-suc i k))
      (from d l (suc i) (and_r (f i x) (everywhere (suc i) l) t) k (le_of_suc-le-suc h))

  pub everywhere_at : (d : A) (l : List A) → T (everywhere 0 l) → (k : ℕ) → k < length l → T (f k (get_or l k d))
  everywhere_at d l t k h = subst (λ (n : ℕ). T (f n (get_or l k d))) (zero-add k) (from d l 0 t k h)
