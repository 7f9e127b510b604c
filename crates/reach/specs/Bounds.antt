-- What holds of a player's clock and anchor, by the frames that it has played, and of what it is handed. `Size x n`: x is finite and at most n in size.
--
-- A player carries two facts, f being the frames played since it was made:
--
--     ClockIn f clock      of its free clock, between two blocks
--     AnchorIn f anchor    of its voice's anchor
--
-- A new player has them at 0 (`new_clock_in`, `new_anchor_in`). A block of n frames takes `ClockIn f` to `ClockIn (f + n)` (`clock_in`), in every mode and under
-- song lock or not. In it the anchor goes from `AnchorIn (f + k)` at sample k to `AnchorIn (f + k + 1)` at the next (`next_anchor_in`, in Free mode too, where the anchor
-- counts on though nothing reads it), and keeps `AnchorIn (f + k)` where it is begun (`begun_in`) or restarted (`started_in`). Nothing is asked of the settings and
-- the transport of earlier blocks, so both may change at will, within what the questions accept: `SettingsIn` and `TransportIn` are what is left of those, once
-- more for each block. Where f stays within 2 ^ 40, every count, swung or not, is finite and at most 2 ^ 50 in size (`CountIn` of Laws.antt). Assumes nothing.
use Rattle.std.specs.Prelude.{ℕ, ◌+◌, ◌-◌, ◌^◌, ◌≤◌, ◌<◌, false, not, T, negsuc, Float, None, Option, Some}
use Rattle.std.specs.Float.{fin, binary64}
use Rattle.std.specs.Float.Ieee.{fits, is_nan}
use Rattle.std.specs.Float.Ieee.Scale.{finite}
use Rattle.floatlaws.specs.Numbers.{Between}
use Rattle.floatlaws.specs.Whole.{InUnit}
use Rattle.floatlaws.specs.Size.{Size, AtLeast}
use Rattle.settings.specs.declared.times.Rate.{Rate}
use Rattle.settings.specs.declared.times.Rate.TheVariants.{Synced, Hz}
use Rattle.settings.specs.declared.times.Scale.{Scale}
use Rattle.settings.specs.declared.times.Scale.TheVariants as Scale
use Rattle.settings.specs.declared.record.Settings.{Settings}
use Rattle.settings.specs.declared.record.Transport.{Transport}
use Rattle.clock.specs.declared.block.Block.{Block}
use Rattle.clock.specs.declared.block.FreeClock.{FreeClock}
use Rattle.clock.specs.declared.block.FreeClock.TheVariants as FreeClock
use Rattle.clock.specs.declared.block.SongLock.{SongLock}
use Rattle.clock.specs.declared.block.SongLock.TheVariants as SongLock
use Rattle.clock.specs.declared.free.Clock.{Clock}
use Rattle.clock.specs.declared.anchor.Anchor.{Anchor}
use Rattle.clock.specs.declared.anchor.Anchor.TheVariants as Anchor

-- ---- what a player carries, after `frames` frames

abbrev pub AnchorIn : ℕ → Anchor → Type 0
AnchorIn frames (Anchor.Samples c0 n inc) = (n ≤ frames) × Size c0 (2 ^ 45 + (frames - n)) × Size inc 1
AnchorIn frames (Anchor.Beats c0 b0 rate) = Size c0 1 × Size b0 0 × Size rate 2560
AnchorIn frames (Anchor.Seconds c0 s0 rate) = Size c0 1 × Size s0 0 × Size rate 10000

pub record ClockIn (frames : ℕ) (k : Clock) : Type 0 where
  pub counted_in : k.n ≤ frames
  pub start_in : Size k.c0 (2 ^ 45 + (frames - k.n))
  pub next_in : Size k.next (2 ^ 45 + frames)

-- ---- what the questions leave of a call: no float is a NaN or infinite (2), and the transport is in range (6)

abbrev pub RateNumber : Rate → Type 0
RateNumber (Synced d f) = Unit
RateNumber (Hz hz x10) = T (not (is_nan hz))

pub record SettingsIn (s : Settings) : Type 0 where
  pub rate_number : RateNumber s.rate
  pub phase_number : T (not (is_nan s.phase))
  pub grid_in : s.grid_x < 2 ^ 16

abbrev pub PercentNumber : Scale → Type 0
PercentNumber (Scale.Percent p) = T (not (is_nan p))
PercentNumber (Scale.Rate p) = T (not (is_nan p))

pub record TransportIn (t : Transport) : Type 0 where
  pub rate_is_finite : T (finite t.sample_rate)
  pub tempo_in : Size t.tempo 1000
  pub bar_in : Size t.beats_per_bar 64
  pub beats_at : Size t.beats (2 ^ 31)
  pub seconds_at : Size t.seconds (2 ^ 31)
  pub swing_number : T (not (is_nan t.swing))
  pub percent_number : PercentNumber t.scale

-- a loopback from 0 to 1
abbrev pub LoopIn : Option Float → Type 0
LoopIn None = Unit
LoopIn (Some l) = T (fits binary64 l) × InUnit l

-- ---- what `prepare` makes of them: rates of at most 2,560 cycles a beat and 10,000 cycles a second, and a song position within 2 ^ 31

abbrev pub LockIn : Option SongLock → Type 0
LockIn None = Unit
LockIn (Some (SongLock.Beats rate)) = Size rate 2560
LockIn (Some (SongLock.Seconds rate)) = Size rate 10000

pub record BlockIn (b : Block) : Type 0 where
  pub inc_in : Size b.inc 1
  pub phase_in : Size b.phase 1
  pub lock_in : LockIn b.song_lock
  pub beats_in : Size b.beats (2 ^ 31)
  pub beat_in : Size b.beats_per_sample 1000
  pub seconds_in : Size b.seconds (2 ^ 31)
  pub rate_in : AtLeast b.sample_rate 1 1

-- the free clock, where `frames` frames were played before the block
abbrev pub FreeIn : ℕ → FreeClock → Type 0
FreeIn frames (FreeClock.Beats p) = Size p 2560
FreeIn frames (FreeClock.Seconds h) = Size h 10000
FreeIn frames (FreeClock.Counting c0 n) = (n ≤ frames) × Size c0 (2 ^ 45 + (frames - n))

-- the first cycle's share is 1/2 to 3/4
abbrev pub ShareIn : Float → Type 0
ShareIn first = Between (fin false 1 (negsuc 0)) first (fin false 3 (negsuc 1))

abbrev pub SwingIn : Option Float → Type 0
SwingIn None = Unit
SwingIn (Some first) = ShareIn first
