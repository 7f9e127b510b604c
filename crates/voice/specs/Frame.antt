-- One frame of one voice. Assumes nothing.
use Rattle.std.specs.Prelude.{ℕ, Float}
use Rattle.clock.specs.declared.block.Block.{Block}
use Rattle.clock.specs.Anchor.{next_anchor}
use Rattle.settings.specs.declared.choices.LfoType.{LfoType}
use Rattle.settings.specs.declared.choices.Mode.{Mode}
use Rattle.settings.specs.declared.choices.Direction.{Direction}
use Rattle.voice.specs.declared.Voice.{Voice}
use Rattle.voice.specs.Curve.{Curve}
use Rattle.voice.specs.Generate.{count_at, source_after, raw_of}
use Rattle.voice.specs.Output.{posted}

-- the voice after a frame, the frame's two values, and its cycle count
pub record Frame : Type 0 where
  pub voice : Voice
  pub x : Float
  pub y : Float
  pub count : Float

-- sample k of a block, for a voice v
unfoldable pub frame_of : LfoType → Mode → Direction → Curve → Block → ℕ → Voice → Frame
frame_of kind mode direction q b k v =
    let c = count_at mode b v.anchor k in
    let source = source_after kind mode b v.source c in
    let raw = raw_of kind mode direction q source c in
    let out = posted kind b.smooth v.output raw.x raw.y in
    record {
      voice = record { anchor = next_anchor v.anchor; source = source; output = out.output; made_for = v.made_for };
      x = out.x;
      y = out.y;
      count = c;
    }
