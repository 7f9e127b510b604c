-- `path_point_of` meets its contract: what each call gave. Assumes nothing.
use Rattle.curves.specs.Given.{path_point_of}
use Rattle.curves.proofs.path_point_of.Goals as goal

pub returns : goal.returns
unfolding path_point_of
returns c = rw (c.mod_of.ensures, c.mod_of-2.ensures)
