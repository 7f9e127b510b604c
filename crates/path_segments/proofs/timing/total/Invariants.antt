-- `total` meets its contract. The loop's invariant: the first legs are summed. Assumes nothing.
use mathlib.Core.Path.{◌≡◌}
use Rattle.path_segments.specs.Times.{sum_to}
use Rattle.path_segments.proofs.timing.total.Given as goal

abbrev pub invariant-loop-leg : goal.invariant-loop-leg
invariant-loop-leg l = l.sum ≡ sum_to l.legs l.leg-index
