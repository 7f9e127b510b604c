-- A list whose first elements are mapped. Assumes nothing.
use mathlib.Core.Path.{◌≡◌, refl, ap}
use Prim.Native.Nat.{ℕ, zero, suc, ◌<◌}
use native.Mathlib.Nat.{not-suc-le-zero, le_of_suc-le-suc}
use mathlib.Core.List.{List, [], ◌∷◌, ◌++◌, map}
use lib.ListN.{length, get_or, take, drop}

module _ {A : Type 0} (f : A → A) where
  unfoldable pub mapped : ℕ → List A → List A
  mapped zero l = l
  mapped (suc v) [] = []
  mapped (suc v) (x ∷ l) = f x ∷ mapped v l

  pub mapped_is : (v : ℕ) (l : List A) → mapped v l ≡ map f (take v l) ++ drop v l
  unfolding mapped
  mapped_is zero l = refl
  mapped_is (suc v) [] = refl
  mapped_is (suc v) (x ∷ l) = ap {B = List A} (λ t. f x ∷ t) (mapped_is v l)

  pub length_mapped : (v : ℕ) (l : List A) → length (mapped v l) ≡ length l
  unfolding mapped
  length_mapped zero l = refl
  length_mapped (suc v) [] = refl
  length_mapped (suc v) (x ∷ l) = ap suc (length_mapped v l)

  -- the next one stands as it did
  pub get_or_mapped : (v : ℕ) (l : List A) (d : A) → get_or (mapped v l) v d ≡ get_or l v d
  unfolding mapped
  get_or_mapped zero l d = refl
  get_or_mapped (suc v) [] d = refl
  get_or_mapped (suc v) (x ∷ l) d = get_or_mapped v l d

  pub mapped_more : (v : ℕ) (l : List A) (d : A) → v < length l → take v (mapped v l) ++ (f (get_or l v d) ∷ drop (suc v) (mapped v l)) ≡ mapped (suc v) l
  unfolding mapped
  mapped_more zero [] d h = absurd (not-suc-le-zero h)
  mapped_more zero (x ∷ l) d h = refl
  mapped_more (suc v) [] d h = absurd (not-suc-le-zero h)
  mapped_more (suc v) (x ∷ l) d h = ap {B = List A} (λ t. f x ∷ t) (mapped_more v l d (le_of_suc-le-suc h))
