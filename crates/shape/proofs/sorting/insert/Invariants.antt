-- `insert` meets its contract: the points that go after p move up, last first. Assumes nothing.
use mathlib.Core.Path.{◌≡◌}
use lib.ListN.{length}
use Rattle.shape.proofs.Insertion.{Moved}
use Rattle.shape.proofs.sorting.insert.Given as goal

abbrev pub invariant-loop-j : goal.invariant-loop-j
invariant-loop-j l = (length l.fn.points ≡ 64) × Moved l.fn.points l.n l.p l.points l.j
