-- `sort` meets its contract. The loop's invariant: the first n points are sorted. Assumes nothing.
use native.Mathlib.Numerals.{add-one}
use Rattle.shape.specs.Points.{sorted_points, sorted_array}
use Rattle.shape.proofs.Slots.{sort_more}
use Rattle.shape.proofs.sorting.sort.Goals as goal

pub loop-n-init : goal.loop-n-init
unfolding sorted_array sorted_points
loop-n-init c = rw c.new-sorted.ensures

pub loop-n-preserved : goal.loop-n-preserved
loop-n-preserved c = rw (c.insert.ensures, c.clamped.ensures, c.loop-n.invariant, add-one) (sort_more _ _)
