-- A block of a voice as frames of it: of a block with no restart all, of one with a restart those before it and those from it on. Assumes nothing.
use Rattle.std.specs.Prelude.{None, Some}
use Prim.Native.Nat.{ℕ, zero, suc, ◌-◌, min}
use mathlib.Core.Path.{◌≡◌, refl, ap, ◌∙◌}
use mathlib.Core.Logic.{inl, inr}
use mathlib.Core.Bool.{true}
use lib.ListN.{take, drop}
use lib.Seq.{take_at, drop_at}
use lib.Ieee.{Float, eq}
use Rattle.settings.specs.declared.choices.Mode.{Mode}
use Rattle.settings.specs.declared.record.Settings.{Settings}
use Rattle.clock.specs.declared.anchor.Anchor.{Anchor}
use Rattle.clock.specs.declared.anchor.Anchor.TheVariants.{Samples}
use Rattle.clock.specs.declared.block.Block.{Block}
use Rattle.clock.specs.Anchor.{started_of}
use Rattle.voice.specs.declared.Voice.{Voice}
use Rattle.voice.specs.Curve.{Curve}
use Rattle.voice.specs.Frame.{Frame, frame_of}
use Rattle.voice.specs.Voice.{begun_voice, restarted_anchor, triggered_voice}
use Rattle.bank.specs.Render.{voice_after, outs}
use Rattle.bank.specs.Parts.{begun, reaching, restarted, parts_voice, parts_outs}
use Rattle.bank.proofs.Frames.{length_outs}
use Rattle.restart.specs.Rule.{Restarts}
use Rattle.restart.proofs.Constants.{constants_of}
use Rattle.restart.proofs.Frames.{Running, begun_same}
use Rattle.restart.proofs.Stream.{later, plays, after_later, outs_plays}

-- ---- a voice just before and just after a restart

pub reaching_made : (s : Settings) (q : Curve) (b : Block) (frames : ℕ) (v : Voice) (k : ℕ) → (reaching s q b frames v k).made_for ≡ Some s.kind
unfolding voice_after frame_of begun begun_voice
reaching_made s q b frames v zero = refl
reaching_made s q b frames v (suc k) = reaching_made s q b frames v k

started : (mode : Mode) (a : Anchor) (b : Block) → Restarts mode → b.song_lock ≡ None → restarted_anchor mode a b ≡ Samples b.phase 0 b.inc
unfolding restarted_anchor started_of
started mode a b (inl m) l = rw (m, l) refl
started mode a b (inr m) l = rw (m, l) refl

module _ (s : Settings) (b : Block) (m : Restarts s.mode) (l : b.song_lock ≡ None) where
  -- a restart counts samples from Phase by the block's increment
  pub triggered_anchor : (v : Voice) → (triggered_voice s b v).anchor ≡ Samples b.phase 0 b.inc
  unfolding triggered_voice
  triggered_anchor v = started s.mode v.anchor b m l

  pub triggered_runs : (v : Voice) → v.made_for ≡ Some s.kind → Running s.kind b.inc (triggered_voice s b v)
  unfolding triggered_voice
  triggered_runs v e = record { c0 = b.phase; n = 0; is = started s.mode v.anchor b m l; made = e }

  -- and so the stretch after it is begun as it is
  module _ (number : eq b.inc b.inc ≡ true) (q : Curve) (frames : ℕ) (v : Voice) (k : ℕ) where
    pub restarted_is : restarted s q b frames v k ≡ triggered_voice s b (reaching s q b frames v k)
    unfolding restarted
    restarted_is =
        begun_same s b k (triggered_voice s b (reaching s q b frames v k)) b.inc m l number (triggered_runs (reaching s q b frames v k) (reaching_made s q b frames v k))

    pub restarted_runs : Running s.kind b.inc (restarted s q b frames v k)
    restarted_runs = rw restarted_is (triggered_runs (reaching s q b frames v k) (reaching_made s q b frames v k))

-- ---- the frames of a block

module _ (s : Settings) (q : Curve) (b₀ b : Block) (frames : ℕ) (v : Voice) (m : Restarts s.mode) (l : b.song_lock ≡ None) (e : constants_of b ≡ constants_of b₀) where
  -- from a voice that goes on
  module _ (inc : Float) (t : eq inc b.inc ≡ true) (r : Running s.kind inc v) where
    goes : begun s q b frames v ≡ v
    unfolding begun
    goes = begun_same s b 0 v inc m l t r

    -- with no restart
    pub none_outs : (f : Frame → Float) → parts_outs s q b frames v None f ≡ plays s.kind s.mode s.direction q b₀ f frames v
    unfolding parts_outs
    none_outs f =
        ap (λ (z : Voice). outs s.kind s.mode s.direction q b 0 f frames z) goes ∙ outs_plays s.kind s.mode s.direction q b₀ b 0 inc m e f frames v r

    pub none_voice : parts_voice s q b frames v None ≡ later s.kind s.mode s.direction q b₀ frames v
    unfolding parts_voice
    none_voice =
        ap (λ (z : Voice). voice_after s.kind s.mode s.direction q b 0 frames z) goes ∙ after_later s.kind s.mode s.direction q b₀ b 0 inc m e frames v r

    -- those before a restart
    pub before_outs : (at : ℕ) (f : Frame → Float) → take (min at frames) (parts_outs s q b frames v (Some at) f) ≡ plays s.kind s.mode s.direction q b₀ f (min at frames) v
    unfolding parts_outs
    before_outs at f =
        take_at (outs s.kind s.mode s.direction q b 0 f (min at frames) (begun s q b frames v)) _ (min at frames)
        (length_outs s.kind s.mode s.direction q b 0 f (min at frames) (begun s q b frames v))
        ∙ ap (λ (z : Voice). outs s.kind s.mode s.direction q b 0 f (min at frames) z) goes
        ∙ outs_plays s.kind s.mode s.direction q b₀ b 0 inc m e f (min at frames) v r

  -- from the restart on, whatever the voice was
  module _ (number : eq b.inc b.inc ≡ true) (at : ℕ) where
    abbrev start : Voice
    start = restarted s q b frames v (min at frames)

    runs : Running s.kind b.inc start
    runs = restarted_runs s b m l number q frames v (min at frames)

    pub from_outs : (f : Frame → Float)
        → drop (min at frames) (parts_outs s q b frames v (Some at) f) ≡ plays s.kind s.mode s.direction q b₀ f (frames - min at frames) start
    unfolding parts_outs
    from_outs f =
        drop_at (outs s.kind s.mode s.direction q b 0 f (min at frames) (begun s q b frames v)) _ (min at frames)
        (length_outs s.kind s.mode s.direction q b 0 f (min at frames) (begun s q b frames v))
        ∙ outs_plays s.kind s.mode s.direction q b₀ b (min at frames) b.inc m e f (frames - min at frames) start runs

    pub from_voice : parts_voice s q b frames v (Some at) ≡ later s.kind s.mode s.direction q b₀ (frames - min at frames) start
    unfolding parts_voice
    from_voice = after_later s.kind s.mode s.direction q b₀ b (min at frames) b.inc m e (frames - min at frames) start runs
