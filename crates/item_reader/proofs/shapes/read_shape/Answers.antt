-- `read_shape` meets its contract. Assumes nothing.
use Rattle.fields.specs.Parser.{after}
use Rattle.item_reader.proofs.Rows.{shape_is}
use Rattle.item_reader.proofs.shapes.read_shape.Goals as goal

pub returns : goal.returns
unfolding after
returns c = rw (shape_is _ _ _ _ c.in_ok-count.ensures.reads, ← c.in_ok-points.ensures, ← c.in_ok-loopback.ensures)
