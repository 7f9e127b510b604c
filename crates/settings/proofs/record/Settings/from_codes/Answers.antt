-- `Settings::from_codes` meets its contract: each code, in turn. Assumes nothing.
use Rattle.settings.specs.Codes.{settings_at}
use Rattle.settings.proofs.record.Settings.from_codes.Goals as goal

pub returns-in_err-kind : goal.returns-in_err-kind
unfolding settings_at
returns-in_err-kind c = rw (c.from_residual.ensures, ← c.in_err-kind.ensures)

pub returns-in_err-mode : goal.returns-in_err-mode
unfolding settings_at
returns-in_err-mode c = rw (c.from_residual-in_err-mode.ensures, ← c.in_ok-kind.ensures, ← c.in_err-mode.ensures)

pub returns-in_err-direction : goal.returns-in_err-direction
unfolding settings_at
returns-in_err-direction c = rw (c.from_residual-in_err-direction.ensures, ← c.in_ok-kind.ensures, ← c.in_ok-mode.ensures, ← c.in_err-direction.ensures)

pub returns-in_err-rate : goal.returns-in_err-rate
unfolding settings_at
returns-in_err-rate c = rw (c.from_residual-in_err-rate.ensures, ← c.in_ok-kind.ensures, ← c.in_ok-mode.ensures, ← c.in_ok-direction.ensures, ← c.in_err-rate.ensures)

pub returns-in_err-song_lock : goal.returns-in_err-song_lock
unfolding settings_at
returns-in_err-song_lock c = rw (c.from_residual-in_err-song_lock.ensures, ← c.in_ok-kind.ensures, ← c.in_ok-mode.ensures, ← c.in_ok-direction.ensures, ← c.in_ok-rate.ensures, ← c.in_err-song_lock.ensures)

pub returns-in_err-swing : goal.returns-in_err-swing
unfolding settings_at
returns-in_err-swing c = rw (c.from_residual-in_err-swing.ensures, ← c.in_ok-kind.ensures, ← c.in_ok-mode.ensures, ← c.in_ok-direction.ensures, ← c.in_ok-rate.ensures, ← c.in_ok-song_lock.ensures, ← c.in_err-swing.ensures)

pub returns-in_err-phase_snap : goal.returns-in_err-phase_snap
unfolding settings_at
returns-in_err-phase_snap c = rw (c.from_residual-in_err-phase_snap.ensures, ← c.in_ok-kind.ensures, ← c.in_ok-mode.ensures, ← c.in_ok-direction.ensures, ← c.in_ok-rate.ensures, ← c.in_ok-song_lock.ensures, ← c.in_ok-swing.ensures, ← c.in_err-phase_snap.ensures)

pub returns-in_err-fade_in : goal.returns-in_err-fade_in
unfolding settings_at
returns-in_err-fade_in c = rw (c.from_residual-in_err-fade_in.ensures, ← c.in_ok-kind.ensures, ← c.in_ok-mode.ensures, ← c.in_ok-direction.ensures, ← c.in_ok-rate.ensures, ← c.in_ok-song_lock.ensures, ← c.in_ok-swing.ensures, ← c.in_ok-phase_snap.ensures, ← c.in_err-fade_in.ensures)

pub returns-in_err-delay : goal.returns-in_err-delay
unfolding settings_at
returns-in_err-delay c = rw (c.from_residual-in_err-delay.ensures, ← c.in_ok-kind.ensures, ← c.in_ok-mode.ensures, ← c.in_ok-direction.ensures, ← c.in_ok-rate.ensures, ← c.in_ok-song_lock.ensures, ← c.in_ok-swing.ensures, ← c.in_ok-phase_snap.ensures, ← c.in_ok-fade_in.ensures, ← c.in_err-delay.ensures)

pub returns-in_err-smooth : goal.returns-in_err-smooth
unfolding settings_at
returns-in_err-smooth c = rw (c.from_residual-in_err-smooth.ensures, ← c.in_ok-kind.ensures, ← c.in_ok-mode.ensures, ← c.in_ok-direction.ensures, ← c.in_ok-rate.ensures, ← c.in_ok-song_lock.ensures, ← c.in_ok-swing.ensures, ← c.in_ok-phase_snap.ensures, ← c.in_ok-fade_in.ensures, ← c.in_ok-delay.ensures, ← c.in_err-smooth.ensures)

pub returns : goal.returns
unfolding settings_at
returns c = rw (← c.in_ok-kind.ensures, ← c.in_ok-mode.ensures, ← c.in_ok-direction.ensures, ← c.in_ok-rate.ensures, ← c.in_ok-song_lock.ensures, ← c.in_ok-swing.ensures, ← c.in_ok-phase_snap.ensures, ← c.in_ok-fade_in.ensures, ← c.in_ok-delay.ensures, ← c.in_ok-smooth.ensures)
