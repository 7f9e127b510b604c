-- `Shape::coordinates` meets its contract: both arrays are filled with what is read. Assumes nothing.
use lib.ListN.{get_or}
use borrow.Author.Rules.{rules}
use Rattle.shape.specs.Points.{no_point}
use Rattle.shape.specs.Shapes.{coordinates_of}
use Rattle.shape.proofs.Shape.coordinates.Goals as goal

pub returns : goal.returns
unfolding coordinates_of
returns c =
    rw (
      c.filled.ensures (λ i. (get_or c.args.self.points i no_point).x) (λ i r h e. search rules),
      c.filled-2.ensures (λ i. (get_or c.args.self.points i no_point).y) (λ i r h e. search rules),
    )
