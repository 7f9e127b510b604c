-- `fail` meets its contract. Assumes nothing.
use native.Mathlib.Omega.{arith}
use Rattle.std.specs.Prelude.{Some}
use Rattle.turns.specs.declared.Ended.TheVariants as Ended
use Rattle.turns.proofs.One.{turn_writes}
use Rattle.turns.proofs.steps.fail.Goals as goal

pub returns : goal.returns
returns c =
    let at = c.place_after.ensures in
    let w = c.write_fault-w.ensures in
    λ t. turn_writes c.requires w.line w.short t (Some Ended.NoMore) (omega arith) tt c.args.taken (rw at at c.go.ensures)
