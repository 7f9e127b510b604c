-- `bend::strength` meets its contract. Assumes nothing.
use Rattle.bend.specs.Strengths.{strength_of}
use Rattle.bend.proofs.strength.Goals as goal

pub returns : goal.returns
unfolding strength_of
returns c = rw (c.strength_at.ensures, c.grid_index.ensures.0)
