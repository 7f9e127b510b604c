-- An ensemble: as the rules see it, as a call leaves it, and what holds of every one. Assumes nothing.
use Rattle.std.specs.Prelude.{◌≡◌, ℕ, ◌<◌, ◌≤◌, Bool, false, map, length, take, slice_index_or, None, Some}
use Rattle.reach.specs.Bounds.{AnchorIn}
use Rattle.voice.specs.declared.Voice.{Voice}
use Rattle.voice.specs.Voice.{new_voice}
use Rattle.slot.specs.Page.{lfo_of}
use Rattle.ensemble.specs.declared.Member.{Member}
use Rattle.ensemble.specs.Ensemble.{no_member}
use Rattle.player.specs.declared.Player.{Player}
use Rattle.player.specs.Player as player
use Rattle.ensemble_calls.specs.Ensembles.{VoiceRecord, EnsembleState}
use Rattle.ensemble_player.specs.declared.Decks.{Decks}
use Rattle.ensemble_player.specs.declared.Ensemble.{Ensemble}

-- all of a voice but whether its last block ended a One-shot, which the block says
abbrev pub record_of : Member → VoiceRecord
record_of m = record { voice = m.voice; pending = m.pending }

-- all of an ensemble but that, what is made of the rest, and what stands past the last voice
abbrev pub state_of : Ensemble → EnsembleState
state_of e =
    record {
      lfo = lfo_of e.page e.decks.server.clock;
      shared = e.shared;
      voices = map record_of (take e.count e.decks.members);
      server = record { voice = e.decks.server.voice; pending = e.decks.asked };
      played = e.decks.server.played;
    }

-- the serving voice as a player, on the page of all
abbrev pub server_of : Ensemble → Player
server_of e = record { page = e.page; deck = e.decks.server }

-- and a voice
abbrev pub voice_player : Player → Voice → Player
voice_player p voice = record { page = p.page; deck = record { clock = p.deck.clock; voice = voice; kept = p.deck.kept; played = p.deck.played } }

-- ---- as the code makes them

abbrev pub new_member : ℕ → Member
new_member seed = record { voice = new_voice seed; pending = None; finished = false }

abbrev pub asked_member : Member → ℕ → Member
asked_member m at = record { voice = m.voice; pending = Some at; finished = m.finished }

-- a voice for which another has played
abbrev pub idle_member : Bool → Member → Member
idle_member finished m = record { voice = m.voice; pending = None; finished = finished }

-- with the page and the deck of this player
abbrev pub paged_ensemble : Ensemble → Player → Bool → Ensemble
paged_ensemble e p shared =
    record { page = p.page; shared = shared; count = e.count; decks = record { server = p.deck; asked = e.decks.asked; members = e.decks.members } }

-- with other decks
abbrev pub with_decks : Ensemble → Decks → Ensemble
with_decks e decks = record { page = e.page; shared = e.shared; count = e.count; decks = decks }

-- ---- what holds of every ensemble: `make` ensures it, and every other call keeps it

pub record Valid (e : Ensemble) : Type 0 where
  pub server_valid : player.Valid (server_of e)
  pub listed : length e.decks.members ≡ 16
  pub several : 2 ≤ e.count
  pub few : e.count ≤ 16
  pub members_in : (v : ℕ) → v < e.count → AnchorIn e.decks.server.played (slice_index_or e.decks.members v no_member).voice.anchor
