-- `Span::clamped` meets its contract. Assumes nothing.
use Rattle.settings.specs.Times.{clamped_span}
use Rattle.settings.proofs.times.Span.clamped.Goals as goal

pub returns-in-Off : goal.returns-in-Off
unfolding clamped_span
returns-in-Off c = rw c.in-Off.is

pub returns-in-Synced : goal.returns-in-Synced
unfolding clamped_span
returns-in-Synced c = rw (c.in-Synced.is, c.as_span.ensures)

pub returns-in-Seconds : goal.returns-in-Seconds
unfolding clamped_span
returns-in-Seconds c = rw (c.in-Seconds.is, c.clamp.ensures)
