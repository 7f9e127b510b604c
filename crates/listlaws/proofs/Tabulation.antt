-- Arrays that are filled from the front, one element a turn. Assumes nothing.
use mathlib.Core.Path.{◌≡◌, refl, sym, ◌∙◌}
use mathlib.Core.List.{[], ◌∷◌, ◌++◌}
use Prim.Native.Nat.{ℕ, zero, suc, ◌-◌, ◌<◌}
use mathlib.Core.Logic.{inl, inr}
use native.Mathlib.Nat.{eq-or-lt_of_le, le_of_suc-le-suc}
use native.Mathlib.Numerals.{add-one}
use native.Mathlib.Omega.{arith}
use lib.ListN.{length, get_or, set, replicate, length-append, get_or-append}
use lib.Seq.{append_snoc, set_at, get_or_at}
use Rattle.listlaws.specs.Tables.{tabulate, padded}

split : (size i : ℕ) → i < size → size - i ≡ suc (size - suc i)
split size i h = omega arith

module _ {A : Type 0} (f : ℕ → A) where
  pub length_tabulate : (n : ℕ) → length (tabulate f n) ≡ n
  unfolding tabulate
  length_tabulate zero = refl
  length_tabulate (suc n) = length-append (tabulate f n) (f n ∷ []) ∙ rw (length_tabulate n) (add-one n)

  pub get_d_tabulate : (n i : ℕ) (d : A) → i < n → get_or (tabulate f n) i d ≡ f i
  unfolding tabulate
  get_d_tabulate zero i d h = let z : ⊥ = omega arith in absurd z
  get_d_tabulate (suc n) i d h =
      let l : length (tabulate f n) ≡ n = length_tabulate n in
      elim (eq-or-lt_of_le (le_of_suc-le-suc h)) [
        | inl e ↦ rw e (get_or_at (tabulate f n) (f n) [] d n l)
        | inr k ↦ get_or-append (tabulate f n) (f n ∷ []) d i (omega arith) ∙ get_d_tabulate n i d k
      ]

  module _ (size : ℕ) (z : A) where
    padding : (n : ℕ) → padded size z (tabulate f n) ≡ tabulate f n ++ replicate (size - n) z
    padding n = rw (length_tabulate n)

    -- one turn: the next element is stored
    pub fill_more : (i : ℕ) → i < size → set (padded size z (tabulate f i)) i (f i) ≡ padded size z (tabulate f (suc i))
    fill_more i h =
        rw (padding i, padding (suc i), split size i h)
        (set_at (tabulate f i) z (replicate (size - suc i) z) (f i) i (length_tabulate i) ∙ unfold tabulate in sym (append_snoc (tabulate f i) (f i) (replicate (size - suc i) z)))

    pub get_or_padded : (n i : ℕ) (d : A) → i < n → get_or (padded size z (tabulate f n)) i d ≡ f i
    get_or_padded n i d h =
        let l : length (tabulate f n) ≡ n = length_tabulate n in
        get_or-append (tabulate f n) _ d i (omega arith) ∙ get_d_tabulate n i d h
