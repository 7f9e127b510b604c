-- What a voice generates at a cycle count, as `stage` and `raw` of lfo/mod.rs have it. The segment is searched for anew at every sample; that the code may keep the last one is a law
-- (`KeptFor` of specs/Curve). Assumes nothing.
use Rattle.std.specs.Prelude.{◌≡◌, ℕ, ℤ, Float, Option}
use Rattle.std.specs.Float.{binary32}
use Rattle.floatlaws.specs.Numbers.{f32_0, f32_1}
use Rattle.floatlaws.specs.Narrow.{narrowed}
use Rattle.chaos.specs.declared.law.Attractor.{Attractor}
use Rattle.chaos.specs.Advance.{advanced, output_of}
use Rattle.shape_segments.specs.Segments.{curve_of, eval_of}
use Rattle.path_segments.specs.declared.Xy.{Xy}
use Rattle.path_segments.specs.Segments.{path_eval}
use Rattle.position.specs.Position.{swung_by, position_of}
use Rattle.clock.specs.declared.anchor.Anchor.{Anchor}
use Rattle.clock.specs.declared.block.Block.{Block}
use Rattle.clock.specs.Anchor.{cycles_at}
use Rattle.settings.specs.declared.choices.LfoType.{LfoType}
use Rattle.settings.specs.declared.choices.LfoType.TheVariants.{Drawn, Path, Lorenz, Rossler, SampleAndHold}
use Rattle.settings.specs.declared.choices.Mode.{Mode}
use Rattle.settings.specs.declared.choices.Direction.{Direction}
use Rattle.voice.specs.declared.source.Source.{Source}
use Rattle.voice.specs.declared.generator.Generated.{Generated}
use Rattle.voice.specs.declared.generator.Kept.{Kept}
use Rattle.voice.specs.Source.{with_chaos, sampled_of, cycle_of, step_of}
use Rattle.shape_segments.specs.declared.Segment.{Segment}
use Rattle.path_segments.specs.declared.PathSegment.{PathSegment}
use Rattle.voice.specs.Curve.{Curve, drawn_at, path_at, KeptFor}

-- the cycle count at sample k, swung
unfoldable pub count_at : Mode → Block → Anchor → ℕ → Float
count_at mode b a k = swung_by b.swing (cycles_at mode b a k)

-- where in the shape a count falls, as an f32
unfoldable pub place_of : Mode → Direction → Option Float → Float → Float
place_of mode direction from c = narrowed binary32 (position_of mode direction c from)

-- ---- the source after a sample at the count c

abbrev pub chaos_after : Attractor → Mode → Block → Source → Float → Source
chaos_after which mode b s c = with_chaos s (advanced which s.chaos (step_of mode c b.chaos_h) b.chaos_steps)

unfoldable pub source_after : LfoType → Mode → Block → Source → Float → Source
source_after Drawn mode b s c = s
source_after Path mode b s c = s
source_after Lorenz mode b s c = chaos_after Attractor.Lorenz mode b s c
source_after Rossler mode b s c = chaos_after Attractor.Rossler mode b s c
source_after SampleAndHold mode b s c = sampled_of s (cycle_of mode c)

-- ---- the raw X and Y, from the source after the sample

abbrev pub only_x : Float → Xy
only_x x = record { x = x; y = f32_0 }

unfoldable pub raw_of : LfoType → Mode → Direction → Curve → Source → Float → Xy
raw_of Drawn mode direction q s c = let p = place_of mode direction q.from c in only_x (eval_of (drawn_at q p) p)
raw_of Path mode direction q s c = let p = place_of mode direction q.from c in path_eval (path_at q p) p
raw_of Lorenz mode direction q s c = only_x (output_of Attractor.Lorenz s.chaos.x)
raw_of Rossler mode direction q s c = only_x (output_of Attractor.Rossler s.chaos.x)
raw_of SampleAndHold mode direction q s c = only_x (curve_of f32_0 s.held f32_0 f32_1)

-- ---- the code's promises

-- at position p, where the search finds this segment
abbrev pub drew_at : Source → Kept → Segment → Float → Generated
drew_at s k seg p = record { source = s; kept = record { seg = seg; path_seg = k.path_seg }; x = eval_of seg p; y = f32_0 }

abbrev pub traced_at : Source → Kept → PathSegment → Float → Generated
traced_at s k seg p = record { source = s; kept = record { seg = k.seg; path_seg = seg }; x = (path_eval seg p).x; y = (path_eval seg p).y }

unfoldable pub held_at : Source → Kept → ℤ → Generated
held_at s k cycle = record { source = sampled_of s cycle; kept = k; x = curve_of f32_0 (sampled_of s cycle).held f32_0 f32_1; y = f32_0 }

unfoldable pub chaotic_at : Attractor → Float → ℕ → Source → Kept → Generated
chaotic_at which h steps s k =
    let after = advanced which s.chaos h steps in
    record { source = with_chaos s after; kept = k; x = output_of which after.x; y = f32_0 }

pub record Generates (kind : LfoType) (mode : Mode) (direction : Direction) (q : Curve) (b : Block) (s : Source) (c : Float) (r : Generated) : Type 0 where
  pub source_is : r.source ≡ source_after kind mode b s c
  pub x_is : r.x ≡ (raw_of kind mode direction q (source_after kind mode b s c) c).x
  pub y_is : r.y ≡ (raw_of kind mode direction q (source_after kind mode b s c) c).y
  pub kept_is : KeptFor kind q r.kept
