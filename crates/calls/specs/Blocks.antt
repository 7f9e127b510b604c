-- A block of a player, as `process_scalar` of lfo/bank.rs plays it. Assumes nothing.
use Rattle.std.specs.Prelude.{ℕ, ◌+◌, Bool, cond, List, Float, None, Option, Some}
use Rattle.settings.specs.declared.record.Transport.{Transport}
use Rattle.position.specs.Rest.{finished_of}
use Rattle.clock.specs.declared.ready.Prepared.{Prepared}
use Rattle.clock.specs.Ready.{prepared_of, phase_read}
use Rattle.voice.specs.Curve.{Curve}
use Rattle.voice.specs.Frame.{Frame}
use Rattle.bank.specs.Parts.{parts_voice, parts_outs, parts_count}
use Rattle.slot.specs.Slot.{slot_curve, clocked_lfo}
use Rattle.curves.specs.Given.{is_yes}
use Rattle.codes.specs.declared.RestartCodes.{RestartCodes}
use Rattle.calls.specs.State.{State}

-- the restart that a block carries, if any
unfoldable pub pending_of : RestartCodes → Option ℕ
pending_of c = cond (is_yes c.code) (Some c.frame) None

-- of `frames` frames from the transport t at its first sample, restarted where `at` says
module _ (p : State) (t : Transport) (frames : ℕ) (at : Option ℕ) where
  -- the block, and the clock after it
  abbrev pub prepared : Prepared
  prepared = prepared_of p.lfo.settings p.lfo.clock t frames

  -- the curve that its frames read, moved by the buses
  abbrev pub curve : Curve
  curve = slot_curve p.lfo.settings.kind p.lfo

  unfoldable pub played_state : State
  played_state =
      record {
        lfo = clocked_lfo p.lfo prepared.clock;
        voice = parts_voice p.lfo.settings curve prepared.block frames p.voice at;
        played = p.played + frames;
      }

  -- one value of each frame
  unfoldable pub values : (Frame → Float) → List Float
  values = parts_outs p.lfo.settings curve prepared.block frames p.voice at

  -- the swung cycle count of its last frame, 0 where there is none
  abbrev pub end_count : Float
  end_count = parts_count p.lfo.settings curve prepared.block frames p.voice at

  -- by that count, and by the loopback as its frames read it
  unfoldable pub finished : Bool
  finished = finished_of p.lfo.settings.kind p.lfo.settings.mode p.lfo.settings.direction curve.from end_count

-- the phase, 0 to 1, at the transport t
unfoldable pub phase_at : State → Transport → Float
phase_at p t = phase_read p.lfo.settings p.lfo.clock p.voice.anchor t
