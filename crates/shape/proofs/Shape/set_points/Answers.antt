-- `Shape::set_points` meets its contract. Assumes nothing.
use Rattle.shape.specs.Shapes.{shape_of}
use Rattle.shape.proofs.Shape.set_points.Goals as goal

pub returns : goal.returns
unfolding shape_of
returns c = (rw (c.within.ensures, c.new-shape.ensures.0), c.new-shape.ensures.1)
