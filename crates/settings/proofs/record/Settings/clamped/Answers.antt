-- `Settings::clamped` meets its contract. Assumes nothing.
use Rattle.settings.specs.Records.{clamped_settings}
use Rattle.settings.proofs.record.Settings.clamped.Goals as goal

pub returns : goal.returns
unfolding clamped_settings
returns c = simp (c.clamped-self.ensures, c.clamped-self-2.ensures, c.clamped-self-3.ensures, c.clamped_phase.ensures)
