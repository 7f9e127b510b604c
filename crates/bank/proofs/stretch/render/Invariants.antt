-- `render` meets its contract. The invariant is a record: the voice, the last count and both buffers are the definitions at the loop's counter. `turn` is one turn over plain variables.
-- Assumes nothing.
use Prim.Native.Nat.{ℕ, ◌+◌, ◌≤◌, ◌<◌}
use mathlib.Core.Path.{◌≡◌, sym, ap, ◌∙◌}
use mathlib.Core.List.{List}
use native.Mathlib.Numerals.{add-one}
use native.Mathlib.Omega.{arith}
use lib.ListN.{length, set}
use lib.Ieee.{Float}
use Rattle.listlaws.specs.Over.{over}
use Rattle.listlaws.proofs.Over.{over_more_at}
use Rattle.clock.specs.declared.anchor.Anchor.{Anchor}
use Rattle.clock.specs.declared.block.Block.{Block}
use Rattle.clock.specs.Anchor.{sample_count, next_anchor}
use Rattle.settings.specs.declared.choices.LfoType.{LfoType}
use Rattle.settings.specs.declared.choices.Mode.{Mode}
use Rattle.settings.specs.declared.choices.Direction.{Direction}
use Rattle.voice.specs.declared.Voice.{Voice}
use Rattle.voice.specs.declared.output.Posted.{Posted}
use Rattle.voice.specs.declared.generator.Kept.{Kept}
use Rattle.voice.specs.declared.generator.Generated.{Generated}
use Rattle.voice.specs.Curve.{Curve, curve_of, KeptFor}
use Rattle.voice.specs.Generate.{count_at, Generates}
use Rattle.voice.specs.Output.{posted}
use Rattle.voice.specs.Frame.{Frame, frame_of}
use Rattle.bank.specs.Render.{voice_after, outs, last_count}
use Rattle.bank.proofs.Frames.{length_outs, count_after, frame_is}
use Rattle.bank.proofs.stretch.render.Given as goal

-- after j frames
pub record Running (kind : LfoType) (mode : Mode) (direction : Direction) (q : Curve) (b : Block) (from : ℕ) (last : Float) (x₀ y₀ : List Float) (v : Voice)
    (x y : List Float) (w : Voice) (kept : Kept) (c : Float) (j : ℕ) : Type 0 where
  pub voice_is : w ≡ voice_after kind mode direction q b from j v
  pub count_is : c ≡ last_count kind mode direction q b from j v last
  pub x_is : x ≡ over x₀ from (outs kind mode direction q b from (λ f. f.x) j v)
  pub y_is : y ≡ over y₀ from (outs kind mode direction q b from (λ f. f.y) j v)
  pub kept_is : KeptFor kind q kept

module _ {kind : LfoType} {mode : Mode} {direction : Direction} {q : Curve} {b : Block} {from : ℕ} {last : Float} {x₀ y₀ : List Float} {v : Voice}
    {x y : List Float} {w : Voice} {kept : Kept} {c : Float} {j : ℕ} (r : Running kind mode direction q b from last x₀ y₀ v x y w kept c j) where
  pub counted : sample_count w.anchor ≤ sample_count v.anchor + j
  counted = rw (← ap (λ (u : Voice). sample_count u.anchor) r.voice_is) at (count_after kind mode direction q b from j v)

  -- one frame more
  pub turn : (c' : Float) (a' : Anchor) (g : Generated) (p : Posted)
      → c' ≡ count_at mode b w.anchor (from + j) → a' ≡ next_anchor w.anchor → Generates kind mode direction q b w.source c' g → p ≡ posted kind b.smooth w.output g.x g.y
      → from + j < length x₀ → from + j < length y₀
      → Running kind mode direction q b from last x₀ y₀ v (set x (from + j) p.x) (set y (from + j) p.y) (record { anchor = a'; source = g.source; output = p.output; made_for = w.made_for }) g.kept c' (j + 1)
  unfolding voice_after outs last_count
  turn c' a' g p hc ha G hp hx hy =
      let here = frame_is kind mode direction q b (from + j) w.anchor a' w.source g.source w.output w.made_for c' g.x g.y p hc ha G.source_is G.x_is G.y_is hp in
      let e = rw r.voice_is at here in
      record {
        voice_is = rw add-one (sym (ap (λ (f : Frame). f.voice) here) ∙ ap (λ (u : Voice). (frame_of kind mode direction q b (from + j) u).voice) r.voice_is);
        count_is = rw add-one (sym (ap (λ (f : Frame). f.count) e));
        x_is = rw (add-one, e, r.x_is) (over_more_at x₀ from _ _ j (length_outs kind mode direction q b from (λ f. f.x) j v) (omega arith));
        y_is = rw (add-one, e, r.y_is) (over_more_at y₀ from _ _ j (length_outs kind mode direction q b from (λ f. f.y) j v) (omega arith));
        kept_is = G.kept_is;
      }

abbrev pub invariant-loop-j : goal.invariant-loop-j
invariant-loop-j l =
    Running l.s.kind l.s.mode l.s.direction (curve_of l.curve) l.block l.from l.initial.r.count l.initial.x l.initial.y l.initial.r.voice l.x l.y l.r.voice l.r.kept l.r.count l.j
