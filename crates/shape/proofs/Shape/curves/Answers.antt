-- `Shape::curves` meets its contract: both arrays are filled with what is read. Assumes nothing.
use lib.ListN.{get_or}
use borrow.Author.Rules.{rules}
use Rattle.bend.specs.Strengths.{strength_of}
use Rattle.shape.specs.Points.{no_point}
use Rattle.shape.specs.Shapes.{curves_of}
use Rattle.shape.proofs.Shape.curves.Goals as goal

pub returns : goal.returns
unfolding curves_of
returns c =
    rw (
      c.filled.ensures (λ i. strength_of (get_or c.args.self.points i no_point).curve) (λ i r h e. search rules),
      c.filled-2.ensures (λ i. (get_or c.args.self.points i no_point).step) (λ i r h e. search rules),
    )
