-- `Point::clamped` meets its contract: each clamped field is what `extrema::clamp` ensures. Assumes nothing.
use Rattle.shape.specs.Points.{clamped_point}
use Rattle.shape.proofs.sorting.Point.clamped.Goals as goal

pub returns : goal.returns
unfolding clamped_point
returns c = simp (c.clamp.ensures, c.clamp-2.ensures, c.clamp-3.ensures)
