-- The frames of a block are those that are written. Assumes nothing.
use Rattle.std.specs.Prelude.{None, Option, Some}
use Prim.Native.Nat.{ℕ, zero, suc, ◌+◌, ◌-◌, ◌≤◌, ◌<◌}
use mathlib.Core.Path.{◌≡◌, refl, sym, ap, ap₂, ◌∙◌}
use mathlib.Core.Bool.{Bool, true, false}
use mathlib.Core.List.{List, [], ◌∷◌, ◌++◌, append_assoc, append-nil}
use native.Mathlib.Nat.{zero-add, min-le_right}
use native.Mathlib.Omega.{arith}
use borrow.Author.Tests.{ltb-true, ltb-false, lt-ltb, le-ltb}
use lib.Dec.{ltb}
use lib.Ieee.{Float}
use Rattle.listlaws.specs.Tables.{tabulate}
use Rattle.settings.specs.declared.record.Settings.{Settings}
use Rattle.settings.specs.declared.record.Transport.{Transport}
use Rattle.clock.specs.declared.block.Block.{Block}
use Rattle.voice.specs.declared.Voice.{Voice}
use Rattle.voice.specs.Curve.{Curve}
use Rattle.voice.specs.Frame.{Frame, frame_of}
use Rattle.bank.specs.Render.{voice_after, outs}
use Rattle.bank.specs.Parts.{begun, restarted, parts_outs}
use Rattle.calls.specs.State.{State}
use Rattle.calls.specs.Blocks.{prepared, curve, values}
use Rattle.reached.specs.Frames.{restart_frame, nth_voice, nth_frame, FramesWritten}

-- ---- the voice that plays a frame

module _ (p : State) (t : Transport) (frames : ℕ) (at : Option ℕ) where
  abbrev s : Settings
  s = p.lfo.settings

  abbrev q : Curve
  q = curve p t frames at

  abbrev b : Block
  b = (prepared p t frames at).block

  -- the frame that the restart comes before
  abbrev pub n : ℕ
  n = restart_frame at frames

  -- the voice that the block begins with, and the one that is restarted, k frames on
  abbrev pub first : ℕ → Voice
  first k = voice_after s.kind s.mode s.direction q b 0 k (begun s q b frames p.voice)

  abbrev pub later : ℕ → Voice
  later k = voice_after s.kind s.mode s.direction q b n k (restarted s q b frames p.voice n)

  pub voice_first : (k : ℕ) → k < n → nth_voice p t frames at k ≡ first k
  unfolding nth_voice
  voice_first k h = rw (lt-ltb k n h)

  pub voice_later : (k : ℕ) → n ≤ k → nth_voice p t frames at k ≡ later (k - n)
  unfolding nth_voice
  voice_later k h = rw (le-ltb k n h)

  -- what holds of both holds of it
  pub voice_by : (P : Voice → Type 0) (k : ℕ) → (k < n → P (first k)) → (n ≤ k → P (later (k - n))) → P (nth_voice p t frames at k)
  voice_by P k f g = go (ltb k n) refl
    where
      go : (c : Bool) → ltb k n ≡ c → P (nth_voice p t frames at k)
      go true e = rw (voice_first k (ltb-true k n e)) (f (ltb-true k n e))
      go false e = rw (voice_later k (ltb-false k n e)) (g (ltb-false k n e))

  -- ---- its values

  module _ (f : Frame → Float) where
    abbrev value : ℕ → Float
    value k = f (nth_frame p t frames at k)

    abbrev out : ℕ → ℕ → Voice → List Float
    out from m v = outs s.kind s.mode s.direction q b from f m v

    -- those of a stretch of v, after those of the frames before it
    stretch : (from m : ℕ) (v : Voice) → ((j : ℕ) → j < m → nth_voice p t frames at (from + j) ≡ voice_after s.kind s.mode s.direction q b from j v)
        → tabulate value from ++ out from m v ≡ tabulate value (from + m)
    unfolding outs
    stretch from zero v h = append-nil (tabulate value from) ∙ ap (tabulate value) (plain from)
      where
        plain : (a : ℕ) → a ≡ a + 0
        plain a = omega arith
    stretch from (suc m) v h =
        let last : Voice → Float = λ w. f (frame_of s.kind s.mode s.direction q b (from + m) w) in
        sym (append_assoc (tabulate value from) (out from m v) (last (voice_after s.kind s.mode s.direction q b from m v) ∷ []))
        ∙ ap₂ (λ (l : List Float) (a : Float). l ++ (a ∷ [])) (stretch from m v (λ j k. h j (omega arith))) (sym (ap last (h m (omega arith))))
        ∙ unfold tabulate in ap (tabulate value) (plain from m)
      where
        plain : (a c : ℕ) → suc (a + c) ≡ a + suc c
        plain a c = omega arith

    -- those before the restart, and all
    pub first_outs : out 0 n (begun s q b frames p.voice) ≡ tabulate value n
    first_outs =
        unfold tabulate in
        (stretch 0 n (begun s q b frames p.voice) (λ j h. ap (nth_voice p t frames at) (zero-add j) ∙ voice_first j h) ∙ ap (tabulate value) (zero-add n))

    pub all_outs : n ≤ frames → out 0 n (begun s q b frames p.voice) ++ out n (frames - n) (restarted s q b frames p.voice n) ≡ tabulate value frames
    all_outs h =
        ap (λ (l : List Float). l ++ out n (frames - n) (restarted s q b frames p.voice n)) first_outs
        ∙ stretch n (frames - n) (restarted s q b frames p.voice n) (λ j k. voice_later (n + j) (omega arith) ∙ ap later (back n j))
        ∙ ap (tabulate value) (whole n frames h)
      where
        back : (m j : ℕ) → m + j - m ≡ j
        back m j = omega arith

        whole : (m k : ℕ) → m ≤ k → m + (k - m) ≡ k
        whole m k h = omega arith

pub frames_written : FramesWritten
unfolding values parts_outs
frames_written p t frames None f = first_outs p t frames None f
frames_written p t frames (Some i) f = all_outs p t frames (Some i) f (min-le_right i frames)
