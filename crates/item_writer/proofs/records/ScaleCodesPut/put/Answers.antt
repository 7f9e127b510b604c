-- A scale is put, part by part. Assumes nothing.
use Rattle.record.specs.Writing.{scale_bytes}
use Rattle.item_writer.proofs.Laws.{◌then◌}
use Rattle.item_writer.proofs.records.ScaleCodesPut.put.Goals as goal

pub returns : goal.returns
unfolding scale_bytes
returns c =
    c.put-code.ensures
    then c.put.ensures
