-- Playing from an item, or from what its record gives back. Assumes nothing.
use Prim.Native.Nat.{ℕ}
use mathlib.Core.Path.{◌≡◌, refl, sym, ap, ◌∙◌, subst}
use mathlib.Core.Bool.{Bool, true, false, cond}
use mathlib.Core.List.{List, map}
use native.Mathlib.Omega.{arith}
use borrow.Author.Tests.{eqb-true}
use lib.Dec.{eqb}
use Rattle.codes.specs.declared.ItemCodes.{ItemCodes}
use Rattle.curves.specs.Given.{given_shape, given_path}
use Rattle.calls.specs.Calls.{made}
use Rattle.record.specs.Kept.{kept}
use Rattle.record.specs.Questions.{item_answer}
use Rattle.record.specs.Writing.{item_bytes}
use Rattle.record.specs.Records.{given, refused, write_record}
use Rattle.record.proofs.Answers.{passes, answers, keeps}
use Rattle.record.proofs.RoundTrips.{gives_back, accepts_written}
use Rattle.item_calls.specs.Calls.{item_state, entered, StoresPoints, StoresTheRead, PlaysAlike, Exchanged}
use Rattle.item_calls.proofs.Left.{with_curves, left, stores_the_written}
use Rattle.item_calls.proofs.Again.{made_again, shape_again, path_again}

pub plays_alike : PlaysAlike
plays_alike i t h =
    let p = passes i h in
    let same : with_curves (made (kept i).settings (kept i).seed) (given_shape (kept i).shape) (given_path (kept i).path) (map entered (kept i).buses)
    ≡ with_curves (made i.settings i.seed) (given_shape i.shape) (given_path i.path) (map entered i.buses) =
    unfold kept in λ d. with_curves (made_again i.settings i.seed d) (shape_again i t p d) (path_again i t p d) (map entered i.buses) in
    left (kept i) (unfold kept in t.sixteen) (answers (kept i) (keeps i p)) ∙ same ∙ sym (left i t.sixteen h)

was_accepted : (i : ItemCodes) (s : List ℕ) → write_record i ≡ given s → item_answer i ≡ 0
unfolding write_record
was_accepted i s h = by_test (eqb (item_answer i) 0) refl h
  where
    by_test : (t : Bool) → eqb (item_answer i) 0 ≡ t → cond t (given (item_bytes (kept i))) (refused (item_answer i)) ≡ given s → item_answer i ≡ 0
    by_test true e h = eqb-true (item_answer i) 0 e
    by_test false e h = let z : ◌≡◌ {A = ℕ} 0 1 = cc h in absurd (omega arith)

pub exchanged : Exchanged
exchanged i j t s written read =
    let is : kept i ≡ j = cc (sym (gives_back i t s written) ∙ read) in
    ap item_state (sym is) ∙ plays_alike i t (was_accepted i s written)

pub stores_the_read : StoresTheRead
stores_the_read s bytes i h =
    let a = (accepts_written s bytes i).0 h in
    subst (λ (j : ItemCodes). StoresPoints j (item_state i)) a.is_kept (stores_the_written i a.typed.sixteen (was_accepted i s a.written))
