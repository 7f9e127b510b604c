-- `filled` meets its contract. The loop's invariant: the first i are there. Assumes nothing.
use Rattle.std.proofs.Common.{refl, add-one, arith}
use Rattle.listlaws.specs.Tables.{tabulate}
use Rattle.listlaws.proofs.Tabulation.{fill_more}
use Rattle.points.proofs.filled.Goals as goal

pub loop-i-init : goal.loop-i-init
unfolding tabulate
loop-i-init g c f h = refl

pub loop-i-preserved : goal.loop-i-preserved
loop-i-preserved g c f h = rw (c.loop-i.invariant f h, h c.loop-i.i c.at.result c.loop-i-test.true c.at.ensures, add-one) (fill_more f 64 c.args.rest _ (omega arith))
