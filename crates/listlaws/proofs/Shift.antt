-- Room for one more in the middle of an array: the elements from a place on move up by one, last first. Assumes nothing.
use mathlib.Core.Path.{◌≡◌, refl, sym, ap, ◌∙◌}
use mathlib.Core.List.{List, ◌∷◌, ◌++◌, append_assoc}
use Prim.Native.Nat.{ℕ, zero, suc, ◌-◌, ◌≤◌, ◌<◌}
use native.Mathlib.Omega.{arith}
use native.Mathlib.Numerals.{add-one, sub-one}
use lib.ListN.{length, get_or, set, take, drop, replicate, length-drop, get_or-append}
use lib.Seq.{length-take-le, drop-cons, set-append_left, take-set-lt, take-suc-set, get_or-take, append_snoc, take-append-le, drop-append-le, drop-append-add, take_at}
use Rattle.listlaws.specs.Tables.{opened}

one_more : (n j : ℕ) → suc j ≤ n → n - j ≡ suc (n - suc j)
one_more n j h = omega arith

module _ {A : Type 0} where
  -- what stands from place j up to n has moved up, and place j is still as it was
  abbrev pub shifted : List A → ℕ → ℕ → List A
  shifted a n j = take (suc j) a ++ (take (n - j) (drop j a) ++ drop (suc n) a)

  pub set_shifted : (a : List A) (n j : ℕ) (v : A) → j < length a → set (shifted a n j) j v ≡ opened a n j v
  set_shifted a n j v h =
      let r = take (n - j) (drop j a) ++ drop (suc n) a in
      let l : length (take (suc j) a) ≡ suc j = length-take-le (suc j) a h in
      set-append_left (take (suc j) a) r j v (omega arith)
      ∙ ap (λ (t : List A). t ++ r) (sym (take-set-lt (suc j) a j v (omega arith)) ∙ take-suc-set a j v h)
      ∙ append_snoc (take j a) v r

  pub get_or_shifted : (a : List A) (n j : ℕ) (d : A) → suc j < length a → get_or (shifted a n (suc j)) j d ≡ get_or a j d
  get_or_shifted a n j d h =
      let l : length (take (suc (suc j)) a) ≡ suc (suc j) = length-take-le (suc (suc j)) a h in
      get_or-append (take (suc (suc j)) a) _ d j (omega arith) ∙ get_or-take (suc (suc j)) a j d (omega arith)

  pub shifted_more : (a : List A) (n j : ℕ) (d : A) → suc j ≤ n → n < length a → opened a n (suc j) (get_or a j d) ≡ shifted a n j
  shifted_more a n j d h k = rw (one_more n j h, drop-cons a j d (omega arith))

  -- over a list that a part of an array holds, with room for one more
  pub opened_in : (l r : List A) (s : ℕ) (v : A) → s ≤ length l → opened (l ++ r) (length l) s v ≡ (take s l ++ v ∷ drop s l) ++ drop 1 r
  opened_in l r s v h =
      rw (
        take-append-le s l r h,
        drop-append-le s l r h,
        take_at (drop s l) r (length l - s) (length-drop s l),
        ← add-one (length l),
        drop-append-add l r 1,
        append_assoc (take s l) (v ∷ drop s l) (drop 1 r),
      )

  pub drop_padding : (k : ℕ) (z : A) → drop 1 (replicate k z) ≡ replicate (k - 1) z
  drop_padding zero z = refl
  drop_padding (suc k) z = rw (sub-one (suc k))
