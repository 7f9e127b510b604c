-- A modulation is put, part by part. Assumes nothing.
use Rattle.record.specs.Writing.{modulation_bytes}
use Rattle.item_writer.proofs.Laws.{◌then◌}
use Rattle.item_writer.proofs.shapes.ModCodesPut.put.Goals as goal

pub returns : goal.returns
unfolding modulation_bytes
returns c =
    c.put-code.ensures
    then c.put_if-bus.ensures
    then c.put_if.ensures
