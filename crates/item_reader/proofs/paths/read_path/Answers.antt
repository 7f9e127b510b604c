-- `read_path` meets its contract. Assumes nothing.
use Rattle.fields.specs.Parser.{after}
use Rattle.item_reader.proofs.Rows.{path_is}
use Rattle.item_reader.proofs.paths.read_path.Goals as goal

pub returns : goal.returns
unfolding after
returns c = rw (path_is _ _ _ _ c.in_ok-count.ensures.reads _ _ c.in_ok-closed.ensures.reads, ← c.in_ok-points.ensures)
