-- A block of a voice keeps its anchor within the frames played. Assumes nothing.
use Rattle.std.proofs.Common.{ℕ, zero, suc, ◌+◌, ◌-◌, ◌^◌, ◌≤◌, min, arith, lit≤, None, Option, Some}
use native.Mathlib.Nat.{min-le_right}
use Rattle.clock.specs.declared.block.Block.{Block}
use Rattle.clock.specs.Anchor.{next_anchor}
use Rattle.settings.specs.declared.choices.Mode.{Mode}
use Rattle.settings.specs.declared.choices.Mode.TheVariants.{Free, Restart, OneShot}
use Rattle.settings.specs.declared.record.Settings.{Settings}
use Rattle.reach.specs.Bounds.{AnchorIn, BlockIn}
use Rattle.reach.proofs.Reach.{anchor_later, next_anchor_in, begun_in, started_in}
use Rattle.voice.specs.declared.Voice.{Voice}
use Rattle.voice.specs.Curve.{Curve}
use Rattle.voice.specs.Frame.{frame_of}
use Rattle.voice.specs.Voice.{begun_anchor, begun_voice, restarted_anchor, triggered_voice}
use Rattle.bank.specs.Render.{voice_after}
use Rattle.bank.specs.Parts.{begun, restarted, parts_voice}

module _ (s : Settings) (q : Curve) (b : Block) where
  abbrev after : ℕ → ℕ → Voice → Voice
  after = voice_after s.kind s.mode s.direction q b

  -- with f frames played before the block
  module _ (B : BlockIn b) (f : ℕ) where
    begun_voice_in : (k : ℕ) (v : Voice) → k ≤ 4096 → f + k ≤ 2 ^ 40 → AnchorIn (f + k) v.anchor → AnchorIn (f + k) (begun_voice s b k v).anchor
    unfolding begun_voice
    begun_voice_in k v K F i = go s.mode
      where
        go : (m : Mode) → AnchorIn (f + k) (begun_anchor m v.anchor b k)
        go Free = unfold begun_anchor in i
        go Restart = unfold begun_anchor in begun_in b B k K (f + k) F v.anchor i
        go OneShot = unfold begun_anchor in begun_in b B k K (f + k) F v.anchor i

    triggered_in : (g : ℕ) (v : Voice) → AnchorIn g v.anchor → AnchorIn g (triggered_voice s b v).anchor
    unfolding triggered_voice
    triggered_in g v i = go s.mode
      where
        go : (m : Mode) → AnchorIn g (restarted_anchor m v.anchor b)
        go Free = unfold restarted_anchor in i
        go Restart = unfold restarted_anchor in started_in b B g
        go OneShot = unfold restarted_anchor in started_in b B g

    pub after_in : (from n : ℕ) (v : Voice) → AnchorIn (f + from) v.anchor → AnchorIn (f + (from + n)) (after from n v).anchor
    unfolding voice_after frame_of
    after_in from zero v i = anchor_later v.anchor (f + from) (f + (from + 0)) (omega arith) i
    after_in from (suc n) v i =
        anchor_later (next_anchor (after from n v).anchor) (f + (from + n) + 1) (f + (from + suc n)) (omega arith) (next_anchor_in (after from n v).anchor (f + (from + n)) (after_in from n v i))

    -- as the block begins
    pub begun_in_block : (frames : ℕ) (v : Voice) → AnchorIn f v.anchor → f ≤ 2 ^ 40 → AnchorIn (f + 0) (begun s q b frames v).anchor
    unfolding begun
    begun_in_block frames v i F = begun_voice_in 0 v (lit≤ tt) (omega arith) (anchor_later v.anchor f (f + 0) (omega arith) i)

    -- and as it begins again after k frames
    pub restarted_in_block : (frames : ℕ) (v : Voice) (k : ℕ) → k ≤ frames → frames ≤ 4096 → f + frames ≤ 2 ^ 40 → AnchorIn f v.anchor → AnchorIn (f + k) (restarted s q b frames v k).anchor
    unfolding restarted
    restarted_in_block frames v k within K F i =
        let from = begun s q b frames v in
        let first = after_in 0 k from (begun_in_block frames v i (omega arith)) in
        begun_voice_in k (triggered_voice s b (after 0 k from)) (omega arith) (omega arith)
        (triggered_in (f + k) (after 0 k from) (anchor_later (after 0 k from).anchor (f + (0 + k)) (f + k) (omega arith) first))

    pub parts_in : (frames : ℕ) (v : Voice) (at : Option ℕ) → frames ≤ 4096 → f + frames ≤ 2 ^ 40 → AnchorIn f v.anchor → AnchorIn (f + frames) (parts_voice s q b frames v at).anchor
    unfolding parts_voice
    parts_in frames v None K F i =
        let from = begun s q b frames v in
        anchor_later (after 0 frames from).anchor (f + (0 + frames)) (f + frames) (omega arith) (after_in 0 frames from (begun_in_block frames v i (omega arith)))
    parts_in frames v (Some at) K F i =
        let k = min at frames in
        let within : min at frames ≤ frames = min-le_right at frames in
        let again = restarted s q b frames v k in
        anchor_later (after k (frames - k) again).anchor (f + (k + (frames - k))) (f + frames) (omega arith)
        (after_in k (frames - k) again (restarted_in_block frames v k within K F i))
