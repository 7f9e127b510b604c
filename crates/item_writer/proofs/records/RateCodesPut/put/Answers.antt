-- A rate is put, part by part. Assumes nothing.
use Rattle.record.specs.Writing.{rate_bytes}
use Rattle.item_writer.proofs.Laws.{◌then◌}
use Rattle.item_writer.proofs.records.RateCodesPut.put.Goals as goal

pub returns : goal.returns
unfolding rate_bytes
returns c =
    c.put-code.ensures
    then c.put_if-division.ensures
    then c.put_if-feel.ensures
    then c.put_if-hz.ensures
    then c.put_if.ensures
