-- `PathPoint::clamped` meets its contract: each clamped field is what `extrema::clamp` ensures. Assumes nothing.
use Rattle.path.specs.Paths.{clamped_path_point}
use Rattle.path.proofs.PathPoint.clamped.Goals as goal

pub returns : goal.returns
unfolding clamped_path_point
returns c = simp (c.clamp.ensures, c.clamp-2.ensures, c.clamp-3.ensures)
