-- A player: as the rules see it, as it is made, as an edit and a block leave it, and what holds of every one. Assumes nothing.
use Rattle.std.specs.Prelude.{ℕ, ◌^◌, ◌≤◌}
use Rattle.settings.specs.declared.record.Settings.{Settings}
use Rattle.clock.specs.Free.{new_clock}
use Rattle.reach.specs.Bounds.{AnchorIn}
use Rattle.voice.specs.Curve.{void_kept, KeptFor}
use Rattle.voice.specs.Voice.{new_voice}
use Rattle.slot.specs.declared.page.Page.{Page}
use Rattle.slot.specs.Slot.{slot_curve, LfoIn}
use Rattle.slot.specs.Page.{new_page, lfo_of, ListsIn}
use Rattle.calls.specs.State.{State}
use Rattle.player.specs.declared.Deck.{Deck}
use Rattle.player.specs.declared.Player.{Player}

-- all of it but what is made of the rest: the lists, and the segments kept
abbrev pub state_of : Player → State
state_of p = record { lfo = lfo_of p.page p.deck.clock; voice = p.deck.voice; played = p.deck.played }

abbrev pub new_deck : ℕ → Deck
new_deck seed = record { clock = new_clock; voice = new_voice seed; kept = void_kept; played = 0 }

-- just made, with these settings
abbrev pub new_player : Settings → ℕ → Player
new_player s seed = record { page = new_page s; deck = new_deck seed }

-- with another page, and no segment kept
abbrev pub edited_player : Player → Page → Player
edited_player p page = record { page = page; deck = record { clock = p.deck.clock; voice = p.deck.voice; kept = void_kept; played = p.deck.played } }

-- with another deck
abbrev pub with_deck : Player → Deck → Player
with_deck p deck = record { page = p.page; deck = deck }

-- What holds of every player: of its slot and of its voice, and that the lists and the segments kept are those of its page. `make` ensures it, and every other
-- call keeps it.
pub record Valid (p : Player) : Type 0 where
  pub within : p.deck.played ≤ 2 ^ 40
  pub lfo_in : LfoIn p.deck.played (state_of p).lfo
  pub anchor_in : AnchorIn p.deck.played p.deck.voice.anchor
  pub lists_in : ListsIn p.page
  pub kept_for : KeptFor p.page.settings.kind (slot_curve p.page.settings.kind (state_of p).lfo) p.deck.kept
