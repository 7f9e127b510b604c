-- `legs_of` meets its contract: the array is filled with the legs. Assumes nothing.
use lib.ListN.{length}
use borrow.Author.Rules.{rules}
use Rattle.path.specs.Paths.{leg_at, legs_of}
use Rattle.path.proofs.legs_of.Goals as goal

pub returns : goal.returns
unfolding legs_of leg_at
returns c = rw (c.filled.ensures (leg_at c.args.points.now (length c.args.points.now)) (λ i r h e. search rules), c.segment_count-n.ensures.0)
