-- Where a block says finished, position is at rest, and where it does not, it is not. Assumes nothing.
use Rattle.std.specs.Prelude.{None, Option, Some}
use Prim.Native.Nat.{ℕ, zero, suc, ◌+◌, ◌-◌, ◌^◌, ◌≤◌, ◌<◌, min}
use mathlib.Core.Path.{◌≡◌, refl, sym, ap, ◌∙◌, subst}
use mathlib.Core.Logic.{◌⊎◌, inl, inr}
use mathlib.Core.Bool.{Bool, true, false, not, ◌&&◌}
use native.Mathlib.Nat.{zero-add, min-le_right}
use native.Mathlib.Omega.{arith}
use borrow.Author.Tests.{ltb-true, ltb-false}
use lib.Dec.{T, ltb}
use lib.Ieee.{Float, binary64, of_bits, le, fits, is_nan}
use Rattle.floatlaws.specs.Numbers.{f64_0}
use Rattle.floatlaws.specs.Size.{Size}
use Rattle.floatlaws.proofs.Tests.{and_false, yes_so}
use Rattle.floatlaws.proofs.NoNan.{finite_number}
use Rattle.floatlaws.proofs.Size.{size_finite}
use Rattle.settings.specs.declared.choices.LfoType.{LfoType}
use Rattle.settings.specs.declared.choices.LfoType.TheVariants.{Drawn, Path, Lorenz, Rossler, SampleAndHold}
use Rattle.settings.specs.declared.choices.Mode.{Mode}
use Rattle.settings.specs.declared.choices.Mode.TheVariants.{Free, Restart, OneShot}
use Rattle.settings.specs.declared.choices.Direction.{Direction}
use Rattle.settings.specs.declared.choices.Direction.TheVariants.{Forward, Reverse, PingPong}
use Rattle.settings.specs.declared.record.Settings.{Settings}
use Rattle.settings.specs.declared.record.Transport.{Transport}
use Rattle.clock.specs.declared.block.Block.{Block}
use Rattle.position.specs.Rest.{loopback_in_force, finished_from, finished_of}
use Rattle.position.specs.Laws.{ReadsAt}
use Rattle.position.proofs.Resting.{finished_rests, unfinished_moves}
use Rattle.reach.proofs.Frame.{count_in, count_fits}
use Rattle.reach.proofs.Moving.{in_force_moves}
use Rattle.voice.specs.declared.Voice.{Voice}
use Rattle.voice.specs.Curve.{Curve}
use Rattle.voice.specs.Frame.{frame_of}
use Rattle.bank.specs.Render.{last_count}
use Rattle.bank.specs.Parts.{begun, restarted, parts_count}
use Rattle.slot.specs.Moved.{loop_of, moved_curve}
use Rattle.slot.specs.Slot.{Lfo, slot_curve}
use Rattle.slot.proofs.Curves.{loop_in}
use Rattle.calls.specs.State.{State}
use Rattle.calls.specs.Blocks.{prepared, curve, end_count, finished}
use Rattle.player.specs.declared.Player.{Player}
use Rattle.player.specs.Player.{state_of}
use Rattle.player.specs.Promises.{finished_by}
use Rattle.reached.specs.Traces.{History}
use Rattle.reached.specs.Players.{AcceptedBlock}
use Rattle.reached.specs.Frames.{restart_frame, nth_frame}
use Rattle.reached.specs.Finished.{BlockSays, LastFrame, NoFrames, FinishedMeans}
use Rattle.reached.proofs.Players.{reached_valid}
use Rattle.reached.proofs.Frames.{voice_first, voice_later}
use Rattle.reached.proofs.Positions.{frame_counted}

-- ---- what a block says

pub block_says : BlockSays
unfolding finished_by
block_says p t frames at a r x y plays = plays.finished_is ∙ rw (a.accepted, a.transport_is, a.restart_is)

-- ---- the last frame's count

module _ (p : State) (t : Transport) (k : ℕ) (at : Option ℕ) where
  abbrev s : Settings
  s = p.lfo.settings

  abbrev q : Curve
  q = curve p t (suc k) at

  abbrev b : Block
  b = (prepared p t (suc k) at).block

  abbrev n : ℕ
  n = restart_frame at (suc k)

  abbrev last : ℕ → ℕ → Voice → Float → Float
  last = last_count s.kind s.mode s.direction q b

  abbrev start : Voice
  start = begun s q b (suc k) p.voice

  -- where the restart comes after it, or there is none
  whole_last : k < n → last 0 (suc k) start f64_0 ≡ (nth_frame p t (suc k) at k).count
  unfolding last_count frame_of
  whole_last h = rw (voice_first p t (suc k) at k h, zero-add)

  -- and where it comes before it, or at it
  later_last : (c : Float) → n ≤ k → last n (suc k - n) (restarted s q b (suc k) p.voice n) c ≡ (nth_frame p t (suc k) at k).count
  unfolding last_count frame_of
  later_last c h =
      ap (λ (m : ℕ). last n m (restarted s q b (suc k) p.voice n) c) (one_more k n h) ∙ rw (voice_later p t (suc k) at k h, back n k h)
    where
      one_more : (a m : ℕ) → m ≤ a → suc a - m ≡ suc (a - m)
      one_more a m h = omega arith

      back : (m a : ℕ) → m ≤ a → m + (a - m) ≡ a
      back m a h = omega arith

  -- where it comes at the end, no frame follows
  none_later : (m : ℕ) (v : Voice) (c : Float) → m ≡ suc k → last m (suc k - m) v c ≡ c
  unfolding last_count
  none_later m v c e = ap (λ (j : ℕ). last m j v c) (none_left m (suc k) e)
    where
      none_left : (a l : ℕ) → a ≡ l → l - a ≡ 0
      none_left a l e = omega arith

restarted_last : (p : State) (t : Transport) (k i : ℕ) → end_count p t (suc k) (Some i) ≡ (nth_frame p t (suc k) (Some i) k).count
unfolding parts_count
restarted_last p t k i = go (ltb k (min i (suc k))) refl
  where
    whole : (m : ℕ) → k < m → m ≤ suc k → m ≡ suc k
    whole m a c = omega arith

    go : (c : Bool) → ltb k (min i (suc k)) ≡ c → end_count p t (suc k) (Some i) ≡ (nth_frame p t (suc k) (Some i) k).count
    go true e =
        let h = ltb-true k (min i (suc k)) e in
        let m = whole (min i (suc k)) h (min-le_right i (suc k)) in
        none_later p t k (Some i) (min i (suc k)) _ _ m ∙ ap (λ (j : ℕ). last p t k (Some i) 0 j (start p t k (Some i)) f64_0) m ∙ whole_last p t k (Some i) h
    go false e = later_last p t k (Some i) _ (ltb-false k (min i (suc k)) e)

pub last_frame : LastFrame
unfolding parts_count
last_frame p t k None = whole_last p t k None (omega arith)
last_frame p t k (Some i) = restarted_last p t k i

-- ---- a block of no frames

zero_below : (kind : LfoType) (d : Direction) → le (finished_from kind d) f64_0 ≡ false
unfolding finished_from le of_bits
zero_below Drawn Forward = refl
zero_below Drawn Reverse = refl
zero_below Drawn PingPong = refl
zero_below Path Forward = refl
zero_below Path Reverse = refl
zero_below Path PingPong = refl
zero_below Lorenz d = refl
zero_below Rossler d = refl
zero_below SampleAndHold d = refl

nothing : (kind : LfoType) (m : Mode) (d : Direction) (l : Option Float) → finished_of kind m d l f64_0 ≡ false
unfolding finished_of
nothing kind Free d l = refl
nothing kind Restart d l = refl
nothing kind OneShot d l = ap (λ (b : Bool). not (loopback_in_force kind d l) && b) (zero_below kind d) ∙ and_false (not (loopback_in_force kind d l))

empty_count : (p : State) (t : Transport) (at : Option ℕ) → end_count p t 0 at ≡ f64_0
unfolding parts_count last_count
empty_count p t None = refl
empty_count p t (Some i) = rw (min_zero i)
  where
    min_zero : (i : ℕ) → min i 0 ≡ 0
    min_zero i = omega arith

pub no_frames : NoFrames
unfolding finished
no_frames p t at = let s = p.lfo.settings in rw (empty_count p t at) (nothing s.kind s.mode s.direction (curve p t 0 at).from)

-- ---- what finished means

-- the loopback that a drawn shape's frames read, and a path's
reads_path : (lfo : Lfo) → (slot_curve Path lfo).from ≡ None
unfolding moved_curve loop_of
reads_path lfo = refl

reads : (kind : LfoType) (lfo : Lfo) → (kind ≡ Drawn) ⊎ (kind ≡ Path) → ReadsAt kind (slot_curve kind lfo).from
reads kind lfo (inl e) = subst (λ (k : LfoType). ReadsAt k (slot_curve k lfo).from) (sym e) tt
reads kind lfo (inr e) = subst (λ (k : LfoType). ReadsAt k (slot_curve k lfo).from) (sym e) (reads_path lfo)

-- the last frame's count is an f64 and no NaN
abbrev Counted : Float → Type 0
Counted c = T (fits binary64 c) × T (not (is_nan c))

zero_counted : Counted f64_0
unfolding fits is_nan of_bits
zero_counted = (tt, tt)

counted : (p : Player) (t : Transport) (frames : ℕ) (at : Option ℕ) → History p → AcceptedBlock p t frames at → Counted (end_count (state_of p) t frames at)
counted p t zero at h a = subst Counted (sym (empty_count (state_of p) t at)) zero_counted
counted p t (suc k) at h a =
    subst Counted (sym (last_frame (state_of p) t k at))
    (frame_counted (λ m c. T (fits binary64 c)) count_fits p t (suc k) h at a k (omega arith), finite_number _ (size_finite (frame_counted (λ m c. Size c (2 ^ 50)) count_in p t (suc k) h at a k (omega arith))))

silent : (kind : LfoType) (m : Mode) (d : Direction) (l : Option Float) (c : Float) → loopback_in_force kind d l ≡ true → finished_of kind m d l c ≡ false
unfolding finished_of
silent kind Free d l c e = refl
silent kind Restart d l c e = refl
silent kind OneShot d l c e = rw e

pub finished_means : FinishedMeans
unfolding finished
finished_means p t frames at h a k =
    let s = p.page.settings in
    let d = s.direction in
    let from = (curve (state_of p) t frames at).from in
    let c = end_count (state_of p) t frames at in
    let r = reads s.kind (state_of p).lfo k in
    let n = counted p t frames at h a in
    record {
      rests = λ e. finished_rests s.kind s.mode d from c r (yes_so e);
      moves = λ one free e. unfinished_moves s.kind d from c r free n.0 n.1 (subst (λ (m : Mode). finished_of s.kind m d from c ≡ false) one e);
      never = λ force. silent s.kind s.mode d from c force;
      loops_on = λ one force e. in_force_moves s.kind d from c (loop_in (state_of p).lfo (reached_valid h).lfo_in s.kind) force e;
    }
