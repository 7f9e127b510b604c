-- A span is put, part by part. Assumes nothing.
use Rattle.record.specs.Writing.{span_bytes}
use Rattle.item_writer.proofs.Laws.{◌then◌}
use Rattle.item_writer.proofs.records.SpanCodesPut.put.Goals as goal

pub returns : goal.returns
unfolding span_bytes
returns c =
    c.put-code.ensures
    then c.put_if-division.ensures
    then c.put_if.ensures
