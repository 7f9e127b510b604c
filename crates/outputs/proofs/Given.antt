-- From what was read to what is given. Assumes nothing.
use Prim.Native.Nat.{ℕ}
use mathlib.Core.Path.{◌≡◌, sym, ap, ◌∙◌}
use mathlib.Core.Bool.{false}
use mathlib.Core.List.{List, [], ◌∷◌}
use borrow.Author.Tests.{ne_eqb}
use lib.Dec.{eqb}
use lib.ListN.{length}
use Rattle.fields.specs.Parser.{Parsed, read, fault}
use Rattle.outputs.specs.Output.{Calling, given, given_by, given_from, ill}

-- a call
pub call_ill : {M S A : Type 0} (C : Calling M S A) (s : S) (rest : S → ℕ → List (List ℕ)) {v : Parsed A} {n : ℕ} → fault n ≡ v → given_by C s rest v ≡ ill
unfolding given_by
call_ill C s rest r = rw (← r)

-- making
module _ {M S A : Type 0} (C : Calling M S A) (run : List ℕ) where
  pub make_ill : {n : ℕ} → fault n ≡ C.make run 0 → given_from C run (C.make run 0) ≡ ill
  unfolding given_from
  make_ill r = ap (given_from C run) (sym r)

  module _ {m : M} {at : ℕ} (r : read m at ≡ C.make run 0) where
    pub make_taken : C.make_answer m ≡ 0 → given_from C run (C.make run 0) ≡ (0 ∷ []) ∷ given C (length run) (C.made m) run at
    unfolding given_from
    make_taken z = ap (given_from C run) (sym r) ∙ rw z

    pub make_refused : {n : ℕ} → n ≡ C.make_answer m → (n ≡ 0 → ⊥) → given_from C run (C.make run 0) ≡ (n ∷ []) ∷ []
    unfolding given_from
    make_refused {n} n_is z =
        let no : eqb (C.make_answer m) 0 ≡ false = rw n_is at (ne_eqb n 0 z) in
        ap (given_from C run) (sym r) ∙ rw (no, n_is)
