-- `Path::value` meets its contract: what each call gave, put together. Assumes nothing.
use mathlib.Core.Path.{◌≡◌, ◌∙◌}
use native.Mathlib.Omega.{arith}
use mathlib.Core.List.{List}
use lib.ListN.{replicate}
use lib.Ieee.{Float}
use Rattle.floatlaws.specs.Numbers.{f32_0}
use Rattle.points.specs.declared.Coordinates.{Coordinates}
use Rattle.path.specs.declared.Path.{Path}
use Rattle.path_segments.specs.declared.PathSegment.{PathSegment}
use Rattle.path_segments.specs.declared.Xy.{Xy}
use Rattle.path_segments.specs.Segments.{path_segment, path_eval}
use Rattle.path_segments.proofs.First.{path_first}
use Rattle.path.specs.Paths.{modulated_path, bends_of, path_value}
use Rattle.path.proofs.Path.value.Goals as goal

together : (p : Path) (t : Float) (at : Coordinates) (bends : List Float) (seg : PathSegment) (r : Xy)
    → at ≡ modulated_path p.points p.len (replicate 16 f32_0)
    → bends ≡ bends_of p.points p.len
    → seg ≡ path_segment at.xs at.ys bends p.times p.len p.closed t
    → r ≡ path_eval seg t
    → r ≡ path_value p t
unfolding path_value
together p t at bends seg r a b d e = rw (e, d, b, a)

pub returns : goal.returns
returns c =
    together _ _ _ _ _ _
    c.modulated-at.ensures
    c.bends-bends.ensures
    (c.segment.ensures ∙ path_first _ _ _ _ _ _ _ (omega arith))
    c.eval.ensures
