-- `Segment::contains` meets its contract. Assumes nothing.
use Rattle.shape_segments.proofs.Segment.contains.Goals as goal

pub returns-then-self-x : goal.returns-then-self-x
returns-then-self-x c = rw c.if-self-x.true

pub returns-else-self-x : goal.returns-else-self-x
returns-else-self-x c = rw c.if-self-x.false
