-- A loopback is put, part by part. Assumes nothing.
use Rattle.record.specs.Writing.{loopback_bytes}
use Rattle.item_writer.proofs.Laws.{◌then◌}
use Rattle.item_writer.proofs.shapes.LoopbackCodesPut.put.Goals as goal

pub returns : goal.returns
unfolding loopback_bytes
returns c =
    c.put-code.ensures
    then c.put_if.ensures
