-- A point of a path is put, part by part. Assumes nothing.
use Rattle.record.specs.Writing.{path_point_bytes}
use Rattle.item_writer.proofs.Laws.{◌then◌}
use Rattle.item_writer.proofs.paths.PathPointPut.put.Goals as goal

pub returns : goal.returns
unfolding path_point_bytes
returns c =
    c.put-x.ensures
    then c.put-y.ensures
    then c.put-bend.ensures
    then c.put-x_mod.ensures
    then c.put.ensures
