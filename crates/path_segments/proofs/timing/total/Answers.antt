-- `total` meets its contract. The loop's invariant: the first legs are summed. Assumes nothing.
use Rattle.std.proofs.Common.{refl, add-one}
use Rattle.path_segments.specs.Times.{sum_to}
use Rattle.path_segments.proofs.timing.total.Goals as goal

pub loop-leg-init : goal.loop-leg-init
unfolding sum_to
loop-leg-init c = refl

pub loop-leg-preserved : goal.loop-leg-preserved
unfolding sum_to
loop-leg-preserved c = rw (c.loop-leg.invariant, add-one)
