-- A block of an ensemble, as `process_scalar` of lfo/bank.rs plays it: each voice plays it as a player with the common page and its own record would, and with shared on one voice plays
-- it for all. Assumes nothing.
use Rattle.std.specs.Prelude.{ℕ, ◌+◌, Bool, cond, List, map, Float, None}
use Rattle.std.specs.Float.{nan}
use Rattle.settings.specs.declared.record.Transport.{Transport}
use Rattle.clock.specs.Ready.{prepared_of}
use Rattle.voice.specs.Frame.{Frame}
use Rattle.slot.specs.Slot.{clocked_lfo}
use Rattle.columns.specs.Columns.{interleaved}
use Rattle.calls.specs.State.{State}
use Rattle.calls.specs.Blocks.{played_state, values, finished}
use Rattle.ensemble_calls.specs.Ensembles.{VoiceRecord, EnsembleState, with_pending}

-- a voice as a player: the page with its state
abbrev pub player_of : EnsembleState → VoiceRecord → State
player_of e r = record { lfo = e.lfo; voice = r.voice; played = e.played }

-- the record that plays for a voice: "with shared on, one voice serves all"
unfoldable pub playing : EnsembleState → VoiceRecord → VoiceRecord
playing e r = cond e.shared e.server r

-- of `frames` frames from the transport t at its first sample
module _ (e : EnsembleState) (t : Transport) (frames : ℕ) where
  -- a record after a block that it plays, and after one that another record plays; either way no request waits
  unfoldable pub played_record : VoiceRecord → VoiceRecord
  played_record r = record { voice = (played_state (player_of e r) t frames r.pending).voice; pending = None }

  abbrev pub idle_record : VoiceRecord → VoiceRecord
  idle_record r = with_pending r None

  -- the clock moves on, and with shared off each voice, with shared on the serving one
  unfoldable pub played_ensemble : EnsembleState
  played_ensemble =
      record {
        lfo = clocked_lfo e.lfo (prepared_of e.lfo.settings e.lfo.clock t frames).clock;
        shared = e.shared;
        voices = map (λ r. cond e.shared (idle_record r) (played_record r)) e.voices;
        server = cond e.shared (played_record e.server) (idle_record e.server);
        played = e.played + frames;
      }

  -- of a voice, one value of each frame
  unfoldable pub voice_values : (Frame → Float) → VoiceRecord → List Float
  voice_values f r = values (player_of e (playing e r)) t frames (playing e r).pending f

  -- and whether it is finished: "with shared on the serving voice's for all"
  unfoldable pub voice_finished : VoiceRecord → Bool
  voice_finished r = finished (player_of e (playing e r)) t frames (playing e r).pending

  -- of all voices, "output interleaved by voice"
  unfoldable pub ensemble_values : (Frame → Float) → List Float
  ensemble_values f = interleaved nan frames (map (voice_values f) e.voices)
