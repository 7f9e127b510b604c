-- Laws of a stretch of frames: how many values it gives, how far its anchor counts, and one frame made of the four calls of the loop. Assumes nothing.
use Rattle.std.specs.Prelude.{Option}
use mathlib.Core.Path.{◌≡◌, refl}
use Prim.Native.Nat.{ℕ, zero, suc, ◌+◌, ◌≤◌}
use native.Mathlib.Omega.{arith}
use lib.ListN.{length, length-append}
use lib.Ieee.{Float}
use Rattle.clock.specs.declared.anchor.Anchor.{Anchor}
use Rattle.clock.specs.declared.anchor.Anchor.TheVariants.{Samples, Beats, Seconds}
use Rattle.clock.specs.declared.block.Block.{Block}
use Rattle.clock.specs.Anchor.{sample_count, next_anchor}
use Rattle.settings.specs.declared.choices.LfoType.{LfoType}
use Rattle.settings.specs.declared.choices.Mode.{Mode}
use Rattle.settings.specs.declared.choices.Direction.{Direction}
use Rattle.voice.specs.declared.Voice.{Voice}
use Rattle.voice.specs.declared.source.Source.{Source}
use Rattle.voice.specs.declared.output.Output.{Output}
use Rattle.voice.specs.declared.output.Posted.{Posted}
use Rattle.voice.specs.Curve.{Curve}
use Rattle.voice.specs.Generate.{count_at, source_after, raw_of}
use Rattle.voice.specs.Output.{posted}
use Rattle.voice.specs.Frame.{Frame, frame_of}
use Rattle.bank.specs.Render.{voice_after, outs}

next_count : (a : Anchor) → sample_count (next_anchor a) ≤ sample_count a + 1
next_count (Samples c0 n inc) = omega arith
next_count (Beats c0 b0 rate) = omega arith
next_count (Seconds c0 s0 rate) = omega arith

module _ (kind : LfoType) (mode : Mode) (direction : Direction) (q : Curve) (b : Block) where
  frame_count : (k : ℕ) (v : Voice) → sample_count (frame_of kind mode direction q b k v).voice.anchor ≤ sample_count v.anchor + 1
  unfolding frame_of
  frame_count k v = next_count v.anchor

  module _ (from : ℕ) where
    pub length_outs : (f : Frame → Float) (n : ℕ) (v : Voice) → length (outs kind mode direction q b from f n v) ≡ n
    unfolding outs
    length_outs f zero v = refl
    length_outs f (suc n) v = simp length-append (omega (arith, length_outs f n v))

    pub count_after : (n : ℕ) (v : Voice) → sample_count (voice_after kind mode direction q b from n v).anchor ≤ sample_count v.anchor + n
    unfolding voice_after
    count_after zero v = omega arith
    count_after (suc n) v = omega (arith, count_after n v, frame_count (from + n) (voice_after kind mode direction q b from n v))

  -- one frame, of the four calls of the loop
  pub frame_is : (k : ℕ) (a a' : Anchor) (s s' : Source) (o : Output) (m : Option LfoType) (c x y : Float) (p : Posted)
      → c ≡ count_at mode b a k → a' ≡ next_anchor a → s' ≡ source_after kind mode b s c
      → x ≡ (raw_of kind mode direction q (source_after kind mode b s c) c).x → y ≡ (raw_of kind mode direction q (source_after kind mode b s c) c).y
      → p ≡ posted kind b.smooth o x y
      → frame_of kind mode direction q b k (record { anchor = a; source = s; output = o; made_for = m })
      ≡ record { voice = record { anchor = a'; source = s'; output = p.output; made_for = m }; x = p.x; y = p.y; count = c }
  unfolding frame_of
  frame_is k a a' s s' o m c x y p hc ha hs hx hy hp = rw (hp, hx, hy, hs, ha, hc)
