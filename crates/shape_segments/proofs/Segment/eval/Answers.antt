-- `Segment::eval` meets its contract. Assumes nothing.
use Rattle.shape_segments.proofs.Segment.eval.Goals as goal

pub returns : goal.returns
returns c = rw (c.curve.ensures, c.u.ensures)
