-- What holds of each frame's count holds of every frame of a block of a player that calls have reached: its position lies from 0 to 1, and so does every phase that it answers.
-- Assumes nothing.
use Rattle.std.specs.Prelude.{None, Option, Some}
use Prim.Native.Nat.{ℕ, ◌+◌, ◌-◌, ◌≤◌, ◌<◌, min}
use mathlib.Core.Path.{◌≡◌, refl, subst}
use native.Mathlib.Nat.{zero-add}
use native.Mathlib.Omega.{arith}
use lib.Ieee.{Float, binary32}
use Rattle.floatlaws.specs.Whole.{InUnit}
use Rattle.floatlaws.specs.Narrow.{narrowed}
use Rattle.settings.specs.declared.choices.Mode.{Mode}
use Rattle.settings.specs.declared.choices.Direction.{Direction}
use Rattle.settings.specs.declared.record.Transport.{Transport}
use Rattle.position.specs.Position.{position_of}
use Rattle.reach.specs.Bounds.{LoopIn}
use Rattle.reach.specs.Laws.{EachFrame}
use Rattle.reach.proofs.Frame.{frame_in, frame_narrowed, phase_read_in}
use Rattle.voice.specs.declared.Voice.{Voice}
use Rattle.voice.specs.Frame.{frame_of}
use Rattle.voice.specs.Generate.{count_at, place_of}
use Rattle.slot.proofs.Counts.{first_counted, later_counted}
use Rattle.slot.proofs.Curves.{loop_in}
use Rattle.questions.proofs.Facts.{transport_is_in, phase_accepted}
use Rattle.calls.specs.Blocks.{prepared, curve, phase_at}
use Rattle.calls.specs.Calls.{questions, answer}
use Rattle.player.specs.declared.Player.{Player}
use Rattle.player.specs.Player.{state_of}
use Rattle.player.specs.Readings.{phase_answer}
use Rattle.reached.specs.Traces.{History}
use Rattle.reached.specs.Players.{AcceptedBlock}
use Rattle.reached.specs.Frames.{restart_frame, nth_frame, PositionsIn, PhaseIn}
use Rattle.reached.proofs.Players.{reached_valid, known_transport, block_facts, transport_within}
use Rattle.reached.proofs.Frames.{first, later, voice_by}

-- ---- counts

module _ (Law : Mode → Float → Type 0) (each : EachFrame Law) (p : Player) (t : Transport) (frames : ℕ) (h : History p) where
  -- of the count of sample k of the block, played by the voice v
  abbrev Counted : Option ℕ → ℕ → Voice → Type 0
  Counted at k v = let m = p.page.settings.mode in Law m (count_at m (prepared (state_of p) t frames at).block v.anchor k)

  before : (at : Option ℕ) (a : AcceptedBlock p t frames at) (k : ℕ) → k < frames → Counted at k (first (state_of p) t frames at k)
  before at a k l =
      let valid = reached_valid h in
      let B = block_facts a in
      rw zero-add at
      (first_counted Law each (state_of p).lfo t p.deck.played frames valid.lfo_in (transport_within a) B.short B.within_life p.deck.voice valid.anchor_in k (omega arith))

  from_on : (at : Option ℕ) (a : AcceptedBlock p t frames at) (k : ℕ) → k < frames → restart_frame at frames ≤ k
      → Counted at k (later (state_of p) t frames at (k - restart_frame at frames))
  from_on None a k l m = let z : ⊥ = omega arith in absurd z
  from_on (Some i) a k l m =
      let valid = reached_valid h in
      let B = block_facts a in
      subst (λ (j : ℕ). Counted (Some i) j (later (state_of p) t frames (Some i) (k - min i frames))) (whole (min i frames) k m)
      (later_counted Law each (state_of p).lfo t p.deck.played frames valid.lfo_in (transport_within a) B.short B.within_life p.deck.voice valid.anchor_in i (k - min i frames)
      (omega arith))
    where
      whole : (m n : ℕ) → m ≤ n → m + (n - m) ≡ n
      whole m n h = omega arith

  pub frame_counted : (at : Option ℕ) (a : AcceptedBlock p t frames at) (k : ℕ) → k < frames → Law p.page.settings.mode (nth_frame (state_of p) t frames at k).count
  unfolding frame_of
  frame_counted at a k l = voice_by (state_of p) t frames at (Counted at k) k (λ m. before at a k l) (λ m. from_on at a k l m)

-- ---- positions

-- where a count falls, and that as an f32
abbrev Placed : Mode → Float → Type 0
Placed m c = (d : Direction) (l : Option Float) → LoopIn l → InUnit (position_of m d c l)

abbrev Narrowed : Mode → Float → Type 0
Narrowed m c = (d : Direction) (l : Option Float) → LoopIn l → InUnit (narrowed binary32 (position_of m d c l))

pub positions_in : PositionsIn
unfolding place_of
positions_in p t frames at h a k l =
    let s = p.page.settings in
    let loop = loop_in (state_of p).lfo (reached_valid h).lfo_in s.kind in
    let from = (curve (state_of p) t frames at).from in
    (frame_counted Placed frame_in p t frames h at a k l s.direction from loop, frame_counted Narrowed frame_narrowed p t frames h at a k l s.direction from loop)

-- ---- the phase

pub phase_in : PhaseIn
unfolding answer questions phase_answer phase_at
phase_in p c h e =
    let a = phase_accepted c e in
    let k = known_transport c a in
    let valid = reached_valid h in
    let s = state_of p in (
      phase_at (state_of p) k.0,
      rw (e, k.1) refl,
      phase_read_in s.lfo.settings s.lfo.clock s.voice.anchor k.0 s.played
          valid.lfo_in.settings_in (transport_is_in c a k.0 k.1) valid.lfo_in.clock_in valid.anchor_in valid.within,
    )
