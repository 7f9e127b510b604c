-- Frame k of a block of a player: its position, its weight, and that it is the frame that is written. Assumes nothing.
use Rattle.std.specs.Prelude.{ℕ, ◌-◌, ◌<◌, min, ◌≡◌, cond, [], ◌∷◌, ltb, Float, None, Option, Some}
use Rattle.floatlaws.specs.Numbers.{f32_1}
use Rattle.floatlaws.specs.Whole.{InUnit}
use Rattle.listlaws.specs.Tables.{tabulate}
use Rattle.settings.specs.declared.record.Settings.{Settings}
use Rattle.settings.specs.declared.record.Transport.{Transport}
use Rattle.codes.specs.declared.TransportCodes.{TransportCodes}
use Rattle.position.specs.Position.{position_of}
use Rattle.clock.specs.declared.block.Block.{Block}
use Rattle.voice.specs.declared.Voice.{Voice}
use Rattle.voice.specs.Curve.{Curve}
use Rattle.voice.specs.Frame.{Frame, frame_of}
use Rattle.voice.specs.Generate.{place_of}
use Rattle.voice.specs.Output.{gain_of}
use Rattle.bank.specs.Render.{voice_after}
use Rattle.bank.specs.Parts.{begun, restarted}
use Rattle.questions.specs.Answers.{success}
use Rattle.calls.specs.State.{State}
use Rattle.calls.specs.Blocks.{prepared, curve, values}
use Rattle.calls.specs.Calls.{phase, answer}
use Rattle.player.specs.declared.Player.{Player}
use Rattle.player.specs.Player.{state_of}
use Rattle.player.specs.Readings.{phase_answer}
use Rattle.reached.specs.Traces.{History}
use Rattle.reached.specs.Players.{NeverRestarted, AcceptedBlock}

-- ---- frame k

-- the frame that the restart comes before: "A restart frame beyond the block's end means the end", and so does no restart
abbrev pub restart_frame : Option ℕ → ℕ → ℕ
restart_frame None frames = frames
restart_frame (Some n) frames = min n frames

module _ (p : State) (t : Transport) (frames : ℕ) (at : Option ℕ) where
  abbrev s : Settings
  s = p.lfo.settings

  abbrev q : Curve
  q = curve p t frames at

  abbrev b : Block
  b = (prepared p t frames at).block

  abbrev after : ℕ → ℕ → Voice → Voice
  after = voice_after s.kind s.mode s.direction q b

  -- the voice that plays it: the one that the block begins with, and from the restart on the one that is restarted there
  unfoldable pub nth_voice : ℕ → Voice
  nth_voice k =
      let n = restart_frame at frames in
      cond (ltb k n) (after 0 k (begun s q b frames p.voice)) (after n (k - n) (restarted s q b frames p.voice n))

  abbrev pub nth_frame : ℕ → Frame
  nth_frame k = frame_of s.kind s.mode s.direction q b k (nth_voice k)

  -- where in the shape its cycle count falls, and that as an f32
  abbrev pub nth_position : ℕ → Float
  nth_position k = position_of s.mode s.direction (nth_frame k).count q.from

  abbrev pub nth_place : ℕ → Float
  nth_place k = place_of s.mode s.direction q.from (nth_frame k).count

  -- its weight, by delay and fade in
  abbrev pub nth_weight : ℕ → Float
  nth_weight k = let o = (nth_voice k).output in gain_of o.t o.delay o.fade o.inv_fade

-- a block writes the value of frame 0, of frame 1, and so on
abbrev pub FramesWritten : Type 0
FramesWritten = (p : State) (t : Transport) (frames : ℕ) (at : Option ℕ) (f : Frame → Float) → values p t frames at f ≡ tabulate (λ k. f (nth_frame p t frames at k)) frames

-- ---- what holds of them

-- "For every cycle count that a player reaches, position lies in 0 to 1, both included", and "Position becomes f32"
abbrev pub PositionsIn : Type 0
PositionsIn =
    (p : Player) (t : Transport) (frames : ℕ) (at : Option ℕ) → History p → AcceptedBlock p t frames at
    → (k : ℕ) → k < frames → InUnit (nth_position (state_of p) t frames at k) × InUnit (nth_place (state_of p) t frames at k)

-- the same of the phase, which every accepted read gives
abbrev pub PhaseIn : Type 0
PhaseIn = (p : Player) (t : TransportCodes) → History p → answer (state_of p) (phase t) ≡ 0 → (x : Float) × (phase_answer (state_of p) t ≡ success (x ∷ [])) × InUnit x

-- "A voice never restarted has full fade": every frame before the first restart
abbrev pub FullFade : Type 0
FullFade =
    (p : Player) (t : Transport) (frames : ℕ) (at : Option ℕ) (h : History p) → NeverRestarted h
    → (k : ℕ) → k < restart_frame at frames → nth_weight (state_of p) t frames at k ≡ f32_1
