-- An element put among those of a list: where each stands, what holds of all, and what a test picks. Assumes nothing.
use mathlib.Core.Path.{◌≡◌, refl, sym, ap, ◌∙◌, subst}
use mathlib.Core.Logic.{◌⊎◌, inl, inr}
use mathlib.Core.Bool.{Bool, true, false, not, cond}
use mathlib.Core.List.Perm
use mathlib.Core.List.{List, [], ◌∷◌, ◌++◌, append-nil, Perm, perm_middle, perm_append_singleton}
use Prim.Native.Nat.{ℕ, zero, suc, ◌+◌, ◌-◌, ◌≤◌, ◌<◌}
use native.Mathlib.Omega.{arith}
use native.Mathlib.Decide.{dec_lt, ℕ_discrete}
use lib.Dec.{T}
use lib.ListN.{length, get_or, take, drop, replicate, take-append-drop, length-append, length-drop, get_or-append}
use lib.Seq.{length-take-le, get_or-take, get_or-drop, get_or_at, get_or-append-add}
use lib.Ieee.Bits.{is_false}
use Rattle.listlaws.specs.Tables.{padded, inserted, opened, select}
use Rattle.listlaws.proofs.Shift.{opened_in, drop_padding}

module _ {A : Type 0} where
  -- ---- what a test picks

  pub select_append : (t : A → Bool) (l r : List A) → select t (l ++ r) ≡ select t l ++ select t r
  unfolding select
  select_append t [] r = refl
  select_append t (a ∷ l) r = go (t a) (select_append t l r)
    where
      go : (b : Bool) → select t (l ++ r) ≡ select t l ++ select t r → cond b (a ∷ select t (l ++ r)) (select t (l ++ r)) ≡ cond b (a ∷ select t l) (select t l) ++ select t r
      go true e = ap (λ (m : List A). a ∷ m) e
      go false e = e

  pub select_none : (t : A → Bool) (l : List A) (d : A) → ((k : ℕ) → k < length l → T (not (t (get_or l k d)))) → select t l ≡ []
  unfolding select
  select_none t [] d h = refl
  select_none t (a ∷ l) d h = rw (is_false (t a) (h 0 (omega arith))) (select_none t l d (λ (k : ℕ) (r : k < length l). h (suc k) (omega arith)))

  -- ---- where the elements stand

  module _ (l : List A) (j : ℕ) (v : A) (within : j ≤ length l) where
    pub length_inserted : length (inserted l j v) ≡ suc (length l)
    unfolding inserted
    length_inserted = rw (length-append (take j l) (v ∷ drop j l), length-take-le j l within, length-drop j l) (omega arith)

    pub inserted_permutes : Perm (inserted l j v) (l ++ (v ∷ []))
    unfolding inserted
    inserted_permutes =
        Perm.trans (subst (λ (r : List A). Perm (take j l ++ v ∷ drop j l) (v ∷ r)) (take-append-drop j l) (perm_middle (take j l) (drop j l))) (Perm.symm (perm_append_singleton v l))

    -- over an array that begins with the list, and has room for one more
    pub opened_padded : (size : ℕ) (z : A) → opened (padded size z l) (length l) j v ≡ padded size z (inserted l j v)
    unfolding inserted
    opened_padded size z =
        let less : size - length l - 1 ≡ size - suc (length l) = omega arith in
        let e : length (take j l ++ v ∷ drop j l) ≡ suc (length l) = length_inserted in
        rw (e, ← less, ← drop_padding (size - length l) z) (opened_in l (replicate (size - length l) z) j v within)

    -- v comes after the elements that a test picks, where it picks none of those that v goes before
    pub inserted_select : (t : A → Bool) (d : A) → (T (t v) → (k : ℕ) → j ≤ k → k < length l → T (not (t (get_or l k d))))
        → select t (inserted l j v) ≡ select t l ++ select t (v ∷ [])
    unfolding inserted select
    inserted_select t d h =
        select_append t (take j l) (v ∷ drop j l)
        ∙ go (t v) refl
        ∙ ap (λ (r : List A). r ++ select t (v ∷ [])) (sym (select_append t (take j l) (drop j l)) ∙ ap (select t) (take-append-drop j l))
      where
        rest : T (t v) → select t (drop j l) ≡ []
        rest y =
            select_none t (drop j l) d
            (λ (k : ℕ) (r : k < length (drop j l)). rw (get_or-drop j l k d) (h y (j + k) (omega arith) (omega (arith, length-drop j l))))

        go : (b : Bool) → t v ≡ b
            → select t (take j l) ++ cond b (v ∷ select t (drop j l)) (select t (drop j l))
            ≡ (select t (take j l) ++ select t (drop j l)) ++ cond b (v ∷ []) []
        go true e = rw (rest (subst T (sym e) tt), append-nil (select t (take j l)))
        go false e = sym (append-nil (select t (take j l) ++ select t (drop j l)))

    module _ (d : A) where
      below : (k : ℕ) → k < j → get_or (inserted l j v) k d ≡ get_or l k d
      unfolding inserted
      below k h =
          let e : length (take j l) ≡ j = length-take-le j l within in
          get_or-append (take j l) (v ∷ drop j l) d k (omega arith) ∙ get_or-take j l k d h

      there : get_or (inserted l j v) j d ≡ v
      unfolding inserted
      there = get_or_at (take j l) v (drop j l) d j (length-take-le j l within)

      above : (k : ℕ) → j ≤ k → get_or (inserted l j v) (suc k) d ≡ get_or l k d
      unfolding inserted
      above k h =
          let e : length (take j l) ≡ j = length-take-le j l within in
          let m : suc k ≡ length (take j l) + suc (k - j) = omega arith in
          let r : j + (k - j) ≡ k = omega arith in
          rw m (get_or-append-add (take j l) (v ∷ drop j l) (suc (k - j)) d) ∙ get_or-drop j l (k - j) d ∙ rw r

      -- a place below j, j itself, or a place above it, with what stands there
      abbrev pub Where : ℕ → Type 0
      Where k =
          ((k < j) × (get_or (inserted l j v) k d ≡ get_or l k d))
          ⊎ (((k ≡ j) × (get_or (inserted l j v) k d ≡ v))
          ⊎ ((m : ℕ) × (k ≡ suc m) × (j ≤ m) × (get_or (inserted l j v) k d ≡ get_or l m d)))

      pub place : (k : ℕ) → Where k
      place k = go k (dec_lt k j) (ℕ_discrete k j)
        where
          go : (k : ℕ) → Dec (k < j) → Dec (k ≡ j) → Where k
          go k (yes b) e = inl (b, below k b)
          go k (no b) (yes e) = inr (inl (e, rw e there))
          go zero (no b) (no e) = let z : ⊥ = omega arith in absurd z
          go (suc m) (no b) (no e) = let h : j ≤ m = omega arith in inr (inr (m, refl, h, above m h))

      -- what holds of each element and of v holds of each element of the new list
      pub inserted_all : (P : A → Type 0) → ((k : ℕ) → k < length l → P (get_or l k d)) → P v → (k : ℕ) → k < suc (length l) → P (get_or (inserted l j v) k d)
      inserted_all P all new k h = go (place k)
        where
          go : Where k → P (get_or (inserted l j v) k d)
          go (inl b) = rw b.1 (all k (omega arith))
          go (inr (inl e)) = rw e.1 new
          go (inr (inr a)) = rw a.3 (all a.0 (omega arith))
