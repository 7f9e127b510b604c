-- `read_kept` meets its contract. The loop's invariant: i values are read, and the array has the first 64 of them. Assumes nothing.
use native.Mathlib.Omega.{arith}
use borrow.Author.Rules.{rules}
use lib.ListN.{length-set}
use Rattle.std.proofs.lemmas.Result.{err_from_is_err_and}
use Rattle.runs.specs.Curves.{kept}
use Rattle.runs.proofs.Loops.{kept_more, kept_past, kept_stopped}
use Rattle.runs.proofs.kept.read_kept.Goals as goal
use Rattle.runs.proofs.kept.read_kept.Goals.{then-kept_too, else-kept_too}

pub loop-i-init : goal.loop-i-init
unfolding kept
loop-i-init g c = (search rules, λ b p run e h. rw e)

pub loop-i-preserved : goal.loop-i-preserved
loop-i-preserved g c =
    let (long, r) = c.loop-i.invariant in (
      elim c.if-kept_too.branch [
        | then-kept_too w ↦ rw w.kept-is (simp length-set long)
        | else-kept_too w ↦ rw w.kept-is long
      ],
      λ b p run e h. elim c.if-kept_too.branch [
        | then-kept_too w ↦ rw w.kept-is (kept_more b p run _ _ _ _ (r b p run e h) _ _ (h _ _ c.in_ok-value.ensures))
        | else-kept_too w ↦ rw w.kept-is (kept_past b p run _ _ _ _ (r b p run e h) _ _ (h _ _ c.in_ok-value.ensures) (omega arith))
      ],
    )

pub returns-in_err-value : goal.returns-in_err-value
returns-in_err-value g c = λ b p run e h.
    let x = err_from_is_err_and c.from_residual.result c.from_residual.ensures.1 in
    rw (x.1, x.2) (kept_stopped b p run _ _ _ _ (c.loop-i.invariant.1 b p run e h) _ (h _ _ c.in_err-value.ensures) _ (omega arith))
