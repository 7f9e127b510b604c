-- `placed` meets its contract. Assumes nothing.
use Rattle.points.specs.Modulation.{placed_of}
use Rattle.points.proofs.placed.Goals as goal

pub returns : goal.returns
unfolding placed_of
returns c = rw (c.clamp.ensures, c.moved.ensures)
