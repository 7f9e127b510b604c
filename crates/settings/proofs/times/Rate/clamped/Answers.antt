-- `Rate::clamped` meets its contract. Assumes nothing.
use Rattle.settings.specs.Times.{clamped_rate}
use Rattle.settings.proofs.times.Rate.clamped.Goals as goal

pub returns-in-Synced : goal.returns-in-Synced
unfolding clamped_rate
returns-in-Synced c = rw c.in-Synced.is

pub returns-in-Hz : goal.returns-in-Hz
unfolding clamped_rate
returns-in-Hz c = rw (c.in-Hz.is, c.clamp-h.ensures, c.top_hz.ensures)
