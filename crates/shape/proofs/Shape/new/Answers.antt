-- `Shape::new` meets its contract. Assumes nothing.
use native.Mathlib.Omega.{arith}
use Rattle.shape.specs.Shapes.{shape_of}
use Rattle.shape.proofs.Slots.{sort_first}
use Rattle.shape.proofs.Shape.new.Goals as goal

pub returns : goal.returns
unfolding shape_of
returns c =
    let s = sort_first c.args.points.now c.kept-len.result (omega arith) in
    (rw (c.sort.ensures, s, c.kept-len.ensures), omega arith)
