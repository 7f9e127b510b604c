-- What a block leaves in a buffer, how the free clock counts, and the loopback that finished goes by. Assumes nothing.
use Rattle.std.specs.Prelude.{Option, Some, None}
use Prim.Native.Nat.{ℕ, ◌+◌, ◌≤◌}
use mathlib.Core.Path.{◌≡◌, refl, ap, ◌∙◌}
use mathlib.Core.Bool.{Bool, true, cond}
use mathlib.Core.List.{List, ◌++◌}
use native.Mathlib.Omega.{arith}
use borrow.Author.Tests.{eqb-true}
use lib.ListN.{length, get_or, drop, length-append, length-drop}
use lib.Seq.{take_at, drop_at}
use lib.Ieee.{Float, nan}
use Rattle.shape.specs.Shapes.{modulated_of}
use Rattle.settings.specs.declared.choices.LfoType.{LfoType}
use Rattle.settings.specs.declared.choices.LfoType.TheVariants.{Drawn}
use Rattle.settings.specs.declared.record.Transport.{Transport}
use Rattle.codes.specs.declared.TransportCodes.{TransportCodes}
use Rattle.settings.specs.Codes.{transport_at}
use Rattle.floatlaws.proofs.Tests.{yes_so}
use Rattle.settings.proofs.Read.{transport_of}
use Rattle.position.specs.Rest.{finished_of}
use Rattle.clock.specs.declared.block.SongLock.{SongLock}
use Rattle.clock.specs.declared.free.Clock.{Clock}
use Rattle.clock.specs.declared.pace.Tempo.{Tempo}
use Rattle.clock.specs.Pace.{tempo_of}
use Rattle.clock.specs.Free.{anchored_clock, ticked_of}
use Rattle.clock.specs.Ready.{pace_at, lock_at, ticked_at, prepared_of}
use Rattle.voice.specs.Frame.{Frame}
use Rattle.bank.proofs.Blocks.{length_parts}
use Rattle.slot.specs.Moved.{shape_lists, lists_of, loop_of, moved_curve}
use Rattle.slot.specs.Slot.{Lfo, slot_curve}
use Rattle.codes.specs.declared.RestartCodes.{RestartCodes}
use Rattle.questions.proofs.Facts.{BlockAccepted, block_accepted}
use Rattle.calls.specs.State.{State}
use Rattle.calls.specs.Blocks.{pending_of, played_state, values, end_count, finished}
use Rattle.calls.specs.Calls.{block, questions, answer, accepts, accepted, step, played, buffer}
use Rattle.calls.specs.Laws.{RefusedBuffer, Writes, BlockWrites, ClockCounts, modulated_x, FinishedByLoopback}

pub refused_buffer : RefusedBuffer
unfolding buffer
refused_buffer p c frames restart x y f before e = ap (λ (b : Bool). cond b (played p c frames restart f before) before) e

-- ---- one value of each frame

pub length_values : (p : State) (t : Transport) (n : ℕ) (at : Option ℕ) (f : Frame → Float) → length (values p t n at f) ≡ n
unfolding values
length_values p t n at f = length_parts p.lfo.settings (slot_curve p.lfo.settings.kind p.lfo) (prepared_of p.lfo.settings p.lfo.clock t n).block n p.voice at f

-- ---- a block that is accepted

module _ (p : State) (c : TransportCodes) (frames : ℕ) (restart : RestartCodes) (x y : List Float) (e : accepts p (block c frames restart x y) ≡ true) where
  pub facts : BlockAccepted p.played c frames restart (length x) (length y)
  unfolding answer questions
  facts = block_accepted p.played c frames restart (length x) (length y) (eqb-true _ 0 e)

  pub block_transport : (t : Transport) × (transport_at c ≡ Some t)
  block_transport = transport_of c (yes_so facts.transport.known)

  writes : (f : Frame → Float) (before : List Float) → frames ≤ length before → Writes p c frames restart x y f before
  writes f before room =
      let t = block_transport.0 in
      let v = values p t frames (pending_of restart) f in
      let n : length v ≡ frames = length_values p t frames (pending_of restart) f in
      let is : buffer p c frames restart x y f before ≡ v ++ drop frames before = unfold buffer played in rw (e, block_transport.1) refl in
      record {
        t = t;
        known = block_transport.1;
        count = n;
        first = rw is (take_at v (drop frames before) frames n);
        rest = rw is (drop_at v (drop frames before) frames n);
        long = rw is (simp (length-append, length-drop, n) (omega (arith, room)));
      }

pub accepted_block : BlockWrites
accepted_block p c frames restart x y e =
    let a = facts p c frames restart x y e in
    record { to_x = writes p c frames restart x y e (λ f. f.x) x a.room_x; to_y = writes p c frames restart x y e (λ f. f.y) y a.room_y }

-- ---- the free clock

counted : (k : Clock) (l : Option SongLock) (inc : Float) (t : Tempo) (beats seconds : Float) (frames : ℕ) → l ≡ None
    → (ticked_of k l inc t beats seconds frames).clock.n ≡ (anchored_clock k inc).n + frames
unfolding ticked_of
counted k l inc t beats seconds frames e = rw e refl

clock_is : (p : State) (c : TransportCodes) (frames : ℕ) (restart : RestartCodes) (x y : List Float) (t : Transport)
    → accepts p (block c frames restart x y) ≡ true → transport_at c ≡ Some t
    → (step p (block c frames restart x y)).lfo.clock ≡ (ticked_at p.lfo.settings p.lfo.clock t frames).clock
unfolding step accepted played_state prepared_of
clock_is p c frames restart x y t e known = rw (e, known) refl

pub clock_counts : ClockCounts
unfolding ticked_at
clock_counts p c frames restart x y t e known lock =
    let s = p.lfo.settings in
    ap (λ (k : Clock). k.n) (clock_is p c frames restart x y t e known)
    ∙ counted p.lfo.clock (lock_at s t) (pace_at s t).inc (tempo_of t) t.beats t.seconds frames lock

-- ---- finished

drawn_from : (lfo : Lfo) (kind : LfoType) (i : ℕ) → kind ≡ Drawn → lfo.shape.loopback ≡ Some i
    → (slot_curve kind lfo).from ≡ Some (get_or (modulated_of lfo.shape.points lfo.shape.len lfo.buses).xs i nan)
unfolding moved_curve loop_of lists_of shape_lists
drawn_from lfo kind i e l = rw (e, l)

pub finished_by_loopback : FinishedByLoopback
unfolding finished
finished_by_loopback p t frames at i e l =
    let s = p.lfo.settings in
    ap (λ (from : Option Float). finished_of s.kind s.mode s.direction from (end_count p t frames at)) (drawn_from p.lfo s.kind i e l)
    ∙ ap (λ (kind : LfoType). finished_of kind s.mode s.direction (Some (modulated_x p i)) (end_count p t frames at)) e
