-- `sort` meets its contract. The loop's invariant: the first n points are sorted. Assumes nothing.
use mathlib.Core.Path.{◌≡◌}
use Rattle.shape.specs.Points.{sorted_array}
use Rattle.shape.proofs.sorting.sort.Given as goal

abbrev pub invariant-loop-n : goal.invariant-loop-n
invariant-loop-n l = l.sorted ≡ sorted_array l.points l.n
