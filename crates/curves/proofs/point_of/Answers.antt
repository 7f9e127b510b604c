-- `point_of` meets its contract: what each call gave. Assumes nothing.
use Rattle.curves.specs.Given.{point_of}
use Rattle.curves.proofs.point_of.Goals as goal

pub returns : goal.returns
unfolding point_of
returns c = rw (c.is_yes.ensures, c.mod_of.ensures, c.mod_of-2.ensures)
