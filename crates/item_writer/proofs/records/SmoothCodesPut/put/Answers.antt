-- Smoothing is put, part by part. Assumes nothing.
use Rattle.record.specs.Writing.{smooth_bytes}
use Rattle.item_writer.proofs.Laws.{◌then◌}
use Rattle.item_writer.proofs.records.SmoothCodesPut.put.Goals as goal

pub returns : goal.returns
unfolding smooth_bytes
returns c =
    c.put-code.ensures
    then c.put_if.ensures
