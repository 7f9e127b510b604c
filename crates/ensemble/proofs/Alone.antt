-- A block of one voice: what it asks of `render_parts` and of `scatter`, and what they give. Assumes nothing.
use Rattle.std.specs.Prelude.{None}
use mathlib.Core.Path.{◌≡◌, refl, sym, ap, ◌∙◌, subst}
use mathlib.Core.Bool.{Bool}
use mathlib.Core.List.{List, ◌++◌}
use Prim.Native.Nat.{ℕ, ◌≤◌}
use native.Mathlib.Omega.{arith}
use lib.ListN.{length, take, drop, length-append}
use lib.Seq.{take_at}
use lib.Ieee.{Float}
use Rattle.columns.specs.Columns.{strided}
use Rattle.position.specs.Rest.{finished_of}
use Rattle.voice.specs.declared.generator.Kept.{Kept}
use Rattle.voice.specs.Curve.{void_kept, KeptFor}
use Rattle.voice.specs.Frame.{Frame}
use Rattle.bank.specs.declared.stretch.Rendered.{Rendered}
use Rattle.bank.specs.Render.{Stretch}
use Rattle.bank.specs.Parts.{parts_outs, PlaysParts}
use Rattle.bank.proofs.Blocks.{length_parts}
use Rattle.slot.proofs.Curves.{void_for}
use Rattle.ensemble.specs.declared.BlockPage.{BlockPage}
use Rattle.ensemble.specs.declared.Member.{Member}
use Rattle.ensemble.specs.Ensemble.{page_curve, member_after, member_outs, Ready, Plays}

-- one value for each frame
pub length_member : (p : BlockPage) (f : Frame → Float) (m : Member) → length (member_outs p f m) ≡ p.frames
unfolding member_outs
length_member p f m = length_parts p.settings (page_curve p) p.block p.frames m.voice m.pending f

module _ (p : BlockPage) (m : Member) (v : ℕ) (x y : List Float) (h : Ready p m v x y) (z w : List Float) (long_z : length z ≡ 4096) (long_w : length w ≡ 4096) where
  pub stretch_ready : (kept : Kept) → kept ≡ void_kept → Stretch p.settings (page_curve p) p.block m.voice kept 0 p.frames z w
  stretch_ready kept e =
      record {
        searchable = h.page_in.searchable;
        kept_for = subst (KeptFor p.settings.kind (page_curve p)) (sym e) (void_for p.settings.kind (page_curve p));
        short = omega (arith, h.page_in.short);
        room_x = omega (arith, h.page_in.short, long_z);
        room_y = omega (arith, h.page_in.short, long_w);
        anchor_small = h.member_in;
        clock_small = h.page_in.clock_small;
      }

  module _ (r : Rendered) (z' w' : List Float) (e : PlaysParts p.settings (page_curve p) p.block m.voice m.pending p.frames z w r z' w') where
    front : (f : Frame → Float) (l l' : List Float) → l' ≡ parts_outs p.settings (page_curve p) p.block p.frames m.voice m.pending f ++ drop p.frames l → take p.frames l' ≡ member_outs p f m
    unfolding member_outs
    front f l l' g = ap (λ (k : List Float). take p.frames k) g ∙ take_at (member_outs p f m) (drop p.frames l) p.frames (length_member p f m)

    full : (f : Frame → Float) (l l' : List Float) → l' ≡ parts_outs p.settings (page_curve p) p.block p.frames m.voice m.pending f ++ drop p.frames l → p.frames ≤ length l'
    unfolding member_outs
    full f l l' g = omega (arith, ap length g ∙ length-append (member_outs p f m) (drop p.frames l), length_member p f m)

    pub plays : (done : Bool) (x' y' : List Float) → done ≡ finished_of p.settings.kind p.settings.mode p.settings.direction p.loopback r.count → x' ≡ strided p.voices v (take p.frames z') x → y' ≡ strided p.voices v (take p.frames w') y
        → Plays p m v x y (record { voice = r.voice; pending = None; finished = done }) x' y'
    unfolding member_after
    plays done x' y' f gx gy =
        record {
          member_is = rw (f, e.voice_is, e.count_is) refl;
          x_is = gx ∙ ap (λ (l : List Float). strided p.voices v l x) (front (λ f. f.x) z z' e.x_is);
          y_is = gy ∙ ap (λ (l : List Float). strided p.voices v l y) (front (λ f. f.y) w w' e.y_is);
        }
