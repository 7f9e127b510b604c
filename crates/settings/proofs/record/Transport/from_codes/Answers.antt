-- `Transport::from_codes` meets its contract: each code, in turn. Assumes nothing.
use Rattle.settings.specs.Codes.{transport_at}
use Rattle.settings.proofs.record.Transport.from_codes.Goals as goal

pub returns-in_err-playing : goal.returns-in_err-playing
unfolding transport_at
returns-in_err-playing c = rw (c.from_residual.ensures, ← c.in_err-playing.ensures)

pub returns-in_err-scale : goal.returns-in_err-scale
unfolding transport_at
returns-in_err-scale c = rw (c.from_residual-in_err-scale.ensures, ← c.in_ok-playing.ensures, ← c.in_err-scale.ensures)

pub returns : goal.returns
unfolding transport_at
returns c = rw (← c.in_ok-playing.ensures, ← c.in_ok-scale.ensures)
