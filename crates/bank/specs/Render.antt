-- A stretch of frames of one voice: the voice after it, the values that it gives, and the cycle count of its last frame. Assumes nothing.
use Rattle.std.specs.Prelude.{ℕ, zero, suc, ◌+◌, ◌^◌, ◌≤◌, ◌<◌, ◌≡◌, List, [], ◌∷◌, ◌++◌, length, Float}
use Rattle.listlaws.specs.Over.{over}
use Rattle.clock.specs.Anchor.{sample_count}
use Rattle.clock.specs.Block.{free_count}
use Rattle.clock.specs.declared.block.Block.{Block}
use Rattle.settings.specs.declared.choices.LfoType.{LfoType}
use Rattle.settings.specs.declared.choices.Mode.{Mode}
use Rattle.settings.specs.declared.choices.Direction.{Direction}
use Rattle.settings.specs.declared.record.Settings.{Settings}
use Rattle.voice.specs.declared.Voice.{Voice}
use Rattle.voice.specs.declared.generator.Kept.{Kept}
use Rattle.voice.specs.Curve.{Curve, Searchable, KeptFor}
use Rattle.voice.specs.Frame.{Frame, frame_of}
use Rattle.bank.specs.declared.stretch.Rendered.{Rendered}

-- of a kind, a mode and a direction, and a curve q, from sample `from` of the block b on
module _ (kind : LfoType) (mode : Mode) (direction : Direction) (q : Curve) (b : Block) (from : ℕ) where
  -- the voice after n frames
  unfoldable pub voice_after : ℕ → Voice → Voice
  voice_after zero v = v
  voice_after (suc n) v = (frame_of kind mode direction q b (from + n) (voice_after n v)).voice

  -- one value of each of n frames
  unfoldable pub outs : (Frame → Float) → ℕ → Voice → List Float
  outs f zero v = []
  outs f (suc n) v = outs f n v ++ (f (frame_of kind mode direction q b (from + n) (voice_after n v)) ∷ [])

  -- the cycle count of the last of n frames; c where there is none
  unfoldable pub last_count : ℕ → Voice → Float → Float
  last_count zero v c = c
  last_count (suc n) v c = (frame_of kind mode direction q b (from + n) (voice_after n v)).count

-- what a stretch asks: points that can be searched, kept segments that belong to them, room in both buffers, and counts that stay small
pub record Stretch (s : Settings) (q : Curve) (b : Block) (v : Voice) (kept : Kept) (from count : ℕ) (x y : List Float) : Type 0 where
  pub searchable : Searchable s.kind q
  pub kept_for : KeptFor s.kind q kept
  pub short : from + count ≤ 4096
  pub room_x : from + count ≤ length x
  pub room_y : from + count ≤ length y
  pub anchor_small : sample_count v.anchor + count < 2 ^ 63
  pub clock_small : free_count b.free < 2 ^ 63

-- what it promises
pub record Renders (s : Settings) (q : Curve) (b : Block) (v : Voice) (last : Float) (from count : ℕ) (x y : List Float) (r : Rendered) (x' y' : List Float) : Type 0 where
  pub voice_is : r.voice ≡ voice_after s.kind s.mode s.direction q b from count v
  pub count_is : r.count ≡ last_count s.kind s.mode s.direction q b from count v last
  pub x_is : x' ≡ over x from (outs s.kind s.mode s.direction q b from (λ f. f.x) count v)
  pub y_is : y' ≡ over y from (outs s.kind s.mode s.direction q b from (λ f. f.y) count v)
  pub kept_is : KeptFor s.kind q r.kept
