-- A player as the rules see it, as it is made, and as a call that is accepted leaves it. Assumes nothing.
use Rattle.std.specs.Prelude.{ℕ, suc, cond, List, ◌∷◌, ◌++◌, get_or, take, drop, Float}
use Rattle.std.specs.Float.{nan}
use Rattle.std.specs.Float.Ieee.{eq}
use Rattle.shape.specs.declared.Shape.{Shape}
use Rattle.path.specs.declared.Path.{Path}
use Rattle.settings.specs.declared.record.Settings.{Settings}
use Rattle.settings.specs.Records.{clamped_settings}
use Rattle.voice.specs.declared.Voice.{Voice}
use Rattle.voice.specs.Voice.{new_voice}
use Rattle.slot.specs.Slot.{Lfo, new_lfo}

-- its settings, curves, buses and clock; its voice; and the frames played since it was made
pub record State : Type 0 where
  pub lfo : Lfo
  pub voice : Voice
  pub played : ℕ

-- a player just made
unfoldable pub new_state : Settings → ℕ → State
new_state s seed = record { lfo = new_lfo s; voice = new_voice seed; played = 0 }

-- ---- edits

abbrev lfo_with : Lfo → Settings → Shape → Path → List Float → Lfo
lfo_with lfo s shape path buses = record { settings = s; shape = shape; path = path; buses = buses; clock = lfo.clock }

abbrev with_lfo : State → Lfo → State
with_lfo p lfo = record { lfo = lfo; voice = p.voice; played = p.played }

-- each number in its range
unfoldable pub with_settings : State → Settings → State
with_settings p s = with_lfo p (lfo_with p.lfo (clamped_settings s) p.lfo.shape p.lfo.path p.lfo.buses)

unfoldable pub with_shape : State → Shape → State
with_shape p shape = with_lfo p (lfo_with p.lfo p.lfo.settings shape p.lfo.path p.lfo.buses)

unfoldable pub with_path : State → Path → State
with_path p path = with_lfo p (lfo_with p.lfo p.lfo.settings p.lfo.shape path p.lfo.buses)

-- "A bus set to a value equal to the stored one, 0 and −0 included, keeps the stored bits"
unfoldable pub moved_buses : List Float → ℕ → Float → List Float
moved_buses buses k value = cond (eq (get_or buses k nan) value) buses (take k buses ++ value ∷ drop (suc k) buses)

unfoldable pub with_bus : State → ℕ → Float → State
with_bus p k value = with_lfo p (lfo_with p.lfo p.lfo.settings p.lfo.shape p.lfo.path (moved_buses p.lfo.buses k value))
