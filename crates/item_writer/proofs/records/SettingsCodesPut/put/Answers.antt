-- Settings are put, part by part. Assumes nothing.
use Rattle.record.specs.Writing.{settings_bytes}
use Rattle.item_writer.proofs.Laws.{◌then◌}
use Rattle.item_writer.proofs.records.SettingsCodesPut.put.Goals as goal

pub returns : goal.returns
unfolding settings_bytes
returns c =
    c.put_first-first.ensures
    then c.put-fade_in.ensures
    then c.put-delay.ensures
    then c.put-smooth.ensures
    then c.put-phase.ensures
    then c.put-phase_snap.ensures
    then c.put.ensures
