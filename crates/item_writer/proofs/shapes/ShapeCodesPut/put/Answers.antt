-- A shape is put, part by part. Assumes nothing.
use native.Mathlib.Omega.{arith}
use lib.ListN.{length-take}
use Rattle.item_writer.proofs.Laws.{◌then◌, at_most}
use Rattle.item_writer.proofs.Items.{shape_put}
use Rattle.item_writer.proofs.shapes.ShapeCodesPut.put.Goals as goal

pub returns : goal.returns
returns c =
    shape_put c.args.self c.shape_of-shape.ensures.0
    (at_most (c.put-count.ensures then c.put_row-points.ensures then c.put.ensures) (simp length-take (omega (arith, c.shape_of-shape.ensures.1))))
