-- Lines, one behind the other. Assumes nothing.
use Rattle.std.proofs.Common.{ℕ, ◌≡◌, Option, List, [], ◌∷◌, ◌++◌, sym, refl, append_assoc, append-nil, subst}
use Rattle.std.specs.Prelude.{Result, Ok, Err, OnOk}
use Rattle.std.specs.Io.KnownBytes.{Appends, Keeps}
use Rattle.std.proofs.KnownBytes.{Appends-nil, Appends-trans, Appends-kept}
use Rattle.stored.specs.declared.Given.{Given}
use Rattle.stored.specs.Shown.{pair_of, pairs, line, lines, AppendsLines}

pub pairs_snoc : (l : List ℕ) (b : ℕ) → pairs (l ++ (b ∷ [])) ≡ pairs l ++ pair_of b
unfolding pairs
pairs_snoc [] b = refl
pairs_snoc (a ∷ l) b = rw (pairs_snoc l b) (append_assoc (pair_of a) (pairs l) (pair_of b))

lines_append : (l l' : List (Given × List ℕ)) → lines (l ++ l') ≡ lines l ++ lines l'
unfolding lines
lines_append [] l' = refl
lines_append ((g, out) ∷ l) l' = rw (lines_append l l') (sym (append_assoc (line g out) (lines l) (lines l')))

pub no_lines : (a : Option (List ℕ)) → AppendsLines a a
unfolding lines
no_lines a = ([], Appends-nil a)

pub one_line : (a b : Option (List ℕ)) (g : Given) (l : List ℕ) → Appends a b (line g l) → AppendsLines a b
unfolding lines
one_line a b g l w = ((g, l) ∷ [], subst (Appends a b) (sym (append-nil (line g l))) w)

pub more_lines : (a b c : Option (List ℕ)) → AppendsLines a b → AppendsLines b c → AppendsLines a c
more_lines a b c (l, w) (l', w') = (l ++ l', subst (Appends a c) (sym (lines_append l l')) (Appends-trans a b c (lines l) (lines l') w w'))

-- what follows where a result is no fault
pub on_ok : {A E : Type 0} {P Q : Type 0} (r : Result A E) → (P → Q) → OnOk r P → OnOk r Q
on_ok (Ok a) f p = f p
on_ok (Err e) f p = tt

pub also_ok : {A E : Type 0} {P : Type 0} (r : Result A E) → P → OnOk r P
also_ok (Ok a) p = p
also_ok (Err e) p = tt

pub kept_lines : (a b c : Option (List ℕ)) → AppendsLines a b → Keeps b c → AppendsLines a c
kept_lines a b c (l, w) k = (l, Appends-kept a b c (lines l) w k)
