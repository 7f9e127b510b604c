-- Lists, and the arrays that begin with them. Assumes nothing.
--     get_d_map, get_or_inside     an element of a mapped list, and one within a list
--     map_padded, map_filled    a mapped array, and a list that is made one by one
use Prim.Native.Nat.{ℕ, zero, suc, ◌-◌, ◌<◌}
use mathlib.Core.Path.{◌≡◌, refl, sym, ap, ◌∙◌}
use mathlib.Core.List.{List, [], ◌∷◌, ◌++◌, map}
use native.Mathlib.Nat.{le_refl}
use native.Mathlib.Omega.{arith}
use lib.ListN.{length, take, get_or, replicate, length-map}
use lib.Seq.{get_or-take, length-take-le}
use Rattle.listlaws.specs.Tables.{tabulate, padded}
use Rattle.fields.proofs.Rows.{last_of}

module _ {A B : Type 0} (f : A → B) where
  pub get_d_map : (l : List A) (k : ℕ) (d : A) (e : B) → k < length l → get_or (map f l) k e ≡ f (get_or l k d)
  get_d_map [] k d e h = let z : ⊥ = omega arith in absurd z
  get_d_map (a ∷ l) zero d e h = refl
  get_d_map (a ∷ l) (suc k) d e h = get_d_map l k d e (omega arith)

  map_same : (n : ℕ) (z : A) → map f (replicate n z) ≡ replicate n (f z)
  map_same zero z = refl
  map_same (suc n) z = ap (λ (l : List B). f z ∷ l) (map_same n z)

  map_joined : (l r : List A) → map f (l ++ r) ≡ map f l ++ map f r
  map_joined [] r = refl
  map_joined (a ∷ l) r = ap (λ (x : List B). f a ∷ x) (map_joined l r)

  pub map_padded : (size : ℕ) (z : A) (l : List A) → map f (padded size z l) ≡ padded size (f z) (map f l)
  map_padded size z l =
      map_joined l (replicate (size - length l) z)
      ∙ ap (λ (x : List B). map f l ++ x) (map_same (size - length l) z ∙ ap (λ (n : ℕ). replicate (size - n) (f z)) (sym (length-map l f)))

  pub map_filled : (g : ℕ → A) (d : B) (n : ℕ) (l : List B) → length l ≡ n → ((k : ℕ) → k < n → f (g k) ≡ get_or l k d) → map f (tabulate g n) ≡ l
  unfolding tabulate
  map_filled g d zero [] size each = refl
  map_filled g d zero (a ∷ l) size each = let z : ⊥ = omega arith in absurd z
  map_filled g d (suc n) l size each =
      map_joined (tabulate g n) (g n ∷ [])
      ∙ ap (λ (x : List B). x ++ (f (g n) ∷ []))
      (map_filled g d n (take n l) (length-take-le n l (omega arith)) (λ k h. each k (omega arith) ∙ sym (get_or-take n l k d h)))
      ∙ ap (λ (a : B). take n l ++ (a ∷ [])) (each n (le_refl (suc n)))
      ∙ sym (last_of d n l size)

-- within a list it does not matter what `get_or` gives past its end
pub get_or_inside : {A : Type 0} (l : List A) (k : ℕ) (d e : A) → k < length l → get_or l k d ≡ get_or l k e
get_or_inside [] k d e h = let z : ⊥ = omega arith in absurd z
get_or_inside (a ∷ l) zero d e h = refl
get_or_inside (a ∷ l) (suc k) d e h = get_or_inside l k d e (omega arith)
