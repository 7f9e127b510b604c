-- An ensemble as the rules see it: voices over one page, as `LfoBank` of lfo/bank.rs has them. As it is made, and as an edit and a request leave it. Assumes nothing.
use Rattle.std.specs.Prelude.{ℕ, ◌+◌, ◌-◌, ◌*◌, ◌%◌, ◌^◌, max, Bool, List, get_or, set, None, Option, Some}
use Rattle.listlaws.specs.Tables.{tabulate}
use Rattle.voice.specs.declared.Voice.{Voice}
use Rattle.voice.specs.Voice.{new_voice}
use Rattle.slot.specs.Slot.{Lfo}
use Rattle.calls.specs.State.{State}

-- a voice's record: its state, and the restart asked for in its next block, if any
pub record VoiceRecord : Type 0 where
  pub voice : Voice
  pub pending : Option ℕ

-- The common page: settings, curves, buses and clock, and whether one voice serves all. Then the voices' records, the serving voice's record, and the frames played since it was made.
pub record EnsembleState : Type 0 where
  pub lfo : Lfo
  pub shared : Bool
  pub voices : List VoiceRecord
  pub server : VoiceRecord
  pub played : ℕ

-- ---- as it is made

-- the seed of voice `index`, as `Lfo::voice` of lfo/mod.rs has it
unfoldable pub seed_of : ℕ → ℕ → ℕ
seed_of seed index = (seed + (index + 1) * 0x9E3779B97F4A7C15) % 2 ^ 64

-- the index of the serving voice: `usize::MAX - 1`
abbrev pub server_index : ℕ
server_index = 2 ^ 64 - 2

abbrev pub new_record : ℕ → VoiceRecord
new_record seed = record { voice = new_voice seed; pending = None }

-- of the serving voice's player, whose page is that of all
unfoldable pub new_ensemble : State → Bool → ℕ → ℕ → EnsembleState
new_ensemble p shared count seed =
    record {
      lfo = p.lfo;
      shared = shared;
      voices = tabulate (λ v. new_record (seed_of seed v)) count;
      server = record { voice = p.voice; pending = None };
      played = p.played;
    }

-- ---- its voices

-- what stands past the last voice
abbrev pub no_record : VoiceRecord
no_record = new_record 0

abbrev pub record_at : EnsembleState → ℕ → VoiceRecord
record_at e v = get_or e.voices v no_record

-- ---- an edit changes the page alone

abbrev pub with_page : EnsembleState → Lfo → Bool → EnsembleState
with_page e lfo shared = record { lfo = lfo; shared = shared; voices = e.voices; server = e.server; played = e.played }

-- ---- a restart asked for

abbrev pub with_pending : VoiceRecord → Option ℕ → VoiceRecord
with_pending r at = record { voice = r.voice; pending = at }

-- "the greatest frame asked counts", also of those that a later one replaced
unfoldable pub greatest : Option ℕ → ℕ → Option ℕ
greatest None at = Some at
greatest (Some k) at = Some (max k at)

-- "A second frame asked for a voice replaces the first; with shared on, one voice serves all and the greatest frame asked counts": both are kept, whatever shared is
unfoldable pub asked_ensemble : EnsembleState → ℕ → ℕ → EnsembleState
asked_ensemble e v at =
    record {
      lfo = e.lfo;
      shared = e.shared;
      voices = set e.voices v (with_pending (record_at e v) (Some at));
      server = with_pending e.server (greatest e.server.pending at);
      played = e.played;
    }
