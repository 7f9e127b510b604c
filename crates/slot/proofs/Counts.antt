-- What holds of each frame's count holds of every frame of a block: of those before the restart and of those from it on. Assumes nothing.
use Rattle.std.proofs.Common.{ℕ, ◌+◌, ◌^◌, ◌≤◌, min, arith}
use native.Mathlib.Nat.{min-le_right}
use lib.Ieee.{Float}
use Rattle.clock.specs.declared.anchor.Anchor.{Anchor}
use Rattle.clock.specs.declared.block.Block.{Block}
use Rattle.clock.specs.Ready.{prepared_of}
use Rattle.settings.specs.declared.choices.Mode.{Mode}
use Rattle.settings.specs.declared.record.Settings.{Settings}
use Rattle.settings.specs.declared.record.Transport.{Transport}
use Rattle.reach.specs.Bounds.{AnchorIn, BlockIn, TransportIn}
use Rattle.reach.specs.Laws.{EachFrame}
use Rattle.voice.specs.declared.Voice.{Voice}
use Rattle.voice.specs.Curve.{Curve}
use Rattle.voice.specs.Generate.{count_at}
use Rattle.bank.specs.Render.{voice_after}
use Rattle.bank.specs.Parts.{begun, restarted}
use Rattle.slot.specs.Slot.{Lfo, slot_curve, LfoIn}
use Rattle.slot.proofs.Anchors.{after_in, begun_in_block, restarted_in_block}
use Rattle.slot.proofs.Blocks as blocks

module _ (Law : Mode → Float → Type 0) (each : EachFrame Law) (lfo : Lfo) (t : Transport) (f frames : ℕ)
    (i : LfoIn f lfo) (J : TransportIn t) (short : frames ≤ 4096) (within : f + frames ≤ 2 ^ 40) where
  abbrev s : Settings
  s = lfo.settings

  abbrev q : Curve
  q = slot_curve s.kind lfo

  abbrev b : Block
  b = (prepared_of s lfo.clock t frames).block

  block_in : BlockIn b
  block_in = blocks.block_in lfo t f frames i J short within

  abbrev anchor : (from j : ℕ) (v : Voice) → Anchor
  anchor from j v = (voice_after s.kind s.mode s.direction q b from j v).anchor

  -- of the count of frame `from + j`, in a stretch of v that starts at sample `from`
  abbrev pub Counted : (from j : ℕ) (v : Voice) → Type 0
  Counted from j v = Law s.mode (count_at s.mode b (anchor from j v) (from + j))

  counted : (from j : ℕ) (v : Voice) → AnchorIn (f + from) v.anchor → from + j ≤ frames → Counted from j v
  unfolding count_at
  counted from j v a h = each s lfo.clock t f frames (from + j) i.settings_in J i.clock_in short within h s.mode (anchor from j v) (after_in s q b block_in f from j v a)

  module _ (v : Voice) (a : AnchorIn f v.anchor) where
    -- before the restart, if any
    pub first_counted : (j : ℕ) → j ≤ frames → Counted 0 j (begun s q b frames v)
    first_counted j h = counted 0 j (begun s q b frames v) (begun_in_block s q b block_in f frames v a (omega arith)) (omega arith)

    -- and from it on
    pub later_counted : (at j : ℕ) → min at frames + j ≤ frames → Counted (min at frames) j (restarted s q b frames v (min at frames))
    later_counted at j h =
        counted (min at frames) j (restarted s q b frames v (min at frames))
        (restarted_in_block s q b block_in f frames v (min at frames) (min-le_right at frames) short within a) h
