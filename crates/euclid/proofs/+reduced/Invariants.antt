-- `reduced` ends: y goes into x less often, the larger it is. Assumes nothing.
use Prim.Native.Nat.{◌/◌}
use Rattle.euclid.proofs.Doublings.{units_in}
use Rattle.euclid.proofs.+reduced.Given as goal

abbrev pub decreases-reduced : goal.decreases-reduced
decreases-reduced l = units_in l.x / units_in l.y
