-- `offset` meets its contract, by the cases of the modulation. Assumes nothing.
use Rattle.points.specs.Modulation.{offset_of}
use Rattle.points.proofs.offset.Goals as goal

pub returns-in-Some : goal.returns-in-Some
unfolding offset_of
returns-in-Some c = cc

pub returns-in-None : goal.returns-in-None
unfolding offset_of
returns-in-None c = cc
