-- `read_row` meets its contract. The loop's invariant: i values are read, and the rest of the array is blank. Assumes nothing.
use mathlib.Core.Path.{◌≡◌, refl, ap, ◌∙◌}
use native.Mathlib.Omega.{arith}
use borrow.Author.Rules.{rules}
use lib.ListN.{length-set}
use Rattle.std.proofs.lemmas.Result.{err_from_is_err_and}
use Rattle.fields.specs.Parser as Parser
use Rattle.fields.specs.Parser.{row, after}
use Rattle.fields.proofs.Loops.{row_more, row_stopped, filled_none, filled_more}
use Rattle.fields.proofs.reader.read_row.Goals as goal

pub loop-i-init : goal.loop-i-init
unfolding row
loop-i-init g c = (search rules, λ b p s e h. (refl, e ∙ filled_none g.row.N b))

pub loop-i-preserved : goal.loop-i-preserved
loop-i-preserved g c =
    let (long, r) = c.loop-i.invariant in
    let few = c.requires.few in (
      simp length-set long,
      λ b p s e h.
          let (read, filled) = r b p s e h in
          (row_more p s _ _ _ _ read _ _ (h _ _ _ c.in_ok-value.ensures) (omega arith), filled_more g.row.N b _ _ _ long (omega arith) filled),
    )

pub returns-in_err-value : goal.returns-in_err-value
unfolding after
returns-in_err-value g c = λ b p s e h.
    let x = err_from_is_err_and c.from_residual.result c.from_residual.ensures.1 in
    rw (x.1, x.2, ← row_stopped p s _ _ _ _ (c.loop-i.invariant.1 b p s e h).0 _ (h _ _ _ c.in_err-value.ensures) c.args.count c.loop-i-test.true)

pub returns : goal.returns
unfolding after
returns g c = λ b p s e h.
    let (read, filled) = c.loop-i.invariant.1 b p s e h in
    let all : c.loop-i.i ≡ c.args.count = omega arith in
    rw (← all, read) (ap (λ l. Parser.read l c.loop-i.next) filled)
