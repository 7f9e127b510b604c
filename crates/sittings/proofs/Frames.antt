-- As many frames are printed as a sitting's bytes say. Assumes nothing.
use Prim.Native.Nat.{ℕ, ◌+◌}
use mathlib.Core.Path.{◌≡◌, refl, ap₂, ◌∙◌}
use mathlib.Core.Bool.{Bool, true, false, cond}
use mathlib.Core.List.{List, [], ◌∷◌, ◌++◌}
use lib.ListN.{length, drop, length-append, length-replicate}
use lib.Ieee.{Float}
use Rattle.floatlaws.specs.Numbers.{f32_0}
use Rattle.codes.specs.declared.RestartCodes.{RestartCodes}
use Rattle.codes.specs.declared.TransportCodes.{TransportCodes}
use Rattle.questions.specs.Questions.{first_no, bus_questions, block_questions}
use Rattle.calls.specs.State.{State}
use Rattle.calls.specs.Calls.{bus, questions, answer, accepts, step}
use Rattle.restart.specs.Heard.{Side}
use Rattle.record.specs.Items.{transport_of}
use Rattle.item_calls.specs.Calls.{item_state}
use Rattle.sittings.specs.declared.Event.{Event}
use Rattle.sittings.specs.declared.Event.TheVariants.{Block, Restart, Bus, End}
use Rattle.sittings.specs.Courses.{Course, no_restart, restart_at, moved_on, play_call, block_values}
use Rattle.sittings.specs.OneByOne.{event_calls, flat, script, shown, printed}
use Rattle.sittings.specs.Frames.{event_frames, frames_of}
use Rattle.sittings.specs.Promises.{FramesCounted}
use Rattle.sittings.proofs.Unplayed.{unplayed}
use Rattle.sittings.proofs.OneByOne.{heard_length, block_counts, bus_counts}

block_answer : (p : State) (t : TransportCodes) (waiting : RestartCodes) (frames : ℕ) → answer p (play_call t waiting frames) ≡ first_no (block_questions p.played t frames waiting 4096 4096)
unfolding answer questions
block_answer p t waiting frames = let e = length-replicate 4096 f32_0 in rw e

bus_answer : (p : State) (k : ℕ) (value : Float) → answer p (bus k value) ≡ first_no (bus_questions k value)
unfolding answer questions
bus_answer p k value = refl

module _ (side : Side) where
  -- an accepted block's frames, and those after it
  block_shown : (p : State) (t : TransportCodes) (waiting : RestartCodes) (frames : ℕ) (b : Bool) → accepts p (play_call t waiting frames) ≡ b → (later : List Float) (n : ℕ)
      → (b ≡ true → length later ≡ n) → length (cond b (block_values side (record { state = p; transport = t; waiting = waiting; index = 0 }) frames ++ later) []) ≡ cond b (frames + n) 0
  block_shown p t waiting frames true ok later n e =
      let c : Course = record { state = p; transport = t; waiting = waiting; index = 0 } in
      length-append (block_values side c frames) later ∙ ap₂ (λ m k. m + k) (heard_length c frames ok side) (e refl)
  block_shown p t waiting frames false fails later n e = refl

  bus_shown : (b : Bool) (later : List Float) (n : ℕ) → length later ≡ n → length (cond b later []) ≡ cond b n 0
  bus_shown true later n e = e
  bus_shown false later n e = refl

  frames_shown : (p : State) (t : TransportCodes) (waiting : RestartCodes) (es : List Event) (n : ℕ) → p.played ≡ n
      → length (shown side p (flat (event_calls t waiting es))) ≡ event_frames n t waiting es
  unfolding event_calls flat shown event_frames
  frames_shown p t waiting [] n e = refl
  frames_shown p t waiting (Block frames ∷ es) n e =
      let c = play_call t waiting frames in
      rw (← e, ← block_answer p t waiting frames)
      (block_shown p t waiting frames (accepts p c) refl _ (event_frames (p.played + frames) (moved_on t frames) no_restart es)
      (λ ok. frames_shown (step p c) (moved_on t frames) no_restart es (p.played + frames) (block_counts (record { state = p; transport = t; waiting = waiting; index = 0 }) frames ok)))
  frames_shown p t waiting (Restart frame ∷ es) n e = frames_shown p t (restart_at frame) es n e
  frames_shown p t waiting (Bus k value ∷ es) n e =
      let q = step p (bus k value) in
      rw (← bus_answer p k value)
      (bus_shown (accepts p (bus k value)) (shown side q (flat (event_calls t waiting es))) (event_frames n t waiting es) (frames_shown q t waiting es n (bus_counts p k value ∙ e)))
  frames_shown p t waiting (End ∷ es) n e = frames_shown p t waiting es n e

pub frames_counted : FramesCounted
unfolding frames_of printed
frames_counted s i next e side = rw e (frames_shown side (item_state i) (transport_of i) no_restart (script (drop next s)).events 0 (unplayed i))
