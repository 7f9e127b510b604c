-- `PathView::leg_segment` meets its contract. Assumes nothing.
use Rattle.path_segments.specs.Segments.{leg_segment}
use Rattle.path_segments.proofs.PathView.leg_segment.Goals as goal

pub returns : goal.returns
unfolding leg_segment
returns c = rw (c.between.ensures, c.next_point-b.ensures.0)
