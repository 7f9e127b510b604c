-- `Shape::value` meets its contract: what each call gave, put together. Assumes nothing.
use mathlib.Core.Path.{◌≡◌, ◌∙◌}
use native.Mathlib.Omega.{arith}
use lib.Ieee.{Float}
use Rattle.shape.specs.declared.Shape.{Shape}
use Rattle.points.specs.declared.Coordinates.{Coordinates}
use Rattle.shape.specs.declared.Curves.{Curves}
use Rattle.shape_segments.specs.declared.Segment.{Segment}
use Rattle.shape_segments.specs.Segments.{drawn_segment, eval_of}
use Rattle.shape_segments.proofs.First.{of_first}
use Rattle.shape.specs.Shapes.{coordinates_of, curves_of, shape_value}
use Rattle.shape.proofs.Shape.value.Goals as goal

together : (s : Shape) (x : Float) (at : Coordinates) (curves : Curves) (seg : Segment) (r : Float)
    → at ≡ coordinates_of s.points s.len
    → curves ≡ curves_of s.points s.len
    → seg ≡ drawn_segment at.xs at.ys curves.es curves.steps s.len x
    → r ≡ eval_of seg x
    → r ≡ shape_value s x
unfolding shape_value
together s x at curves seg r a b d e = rw (e, d, b, a)

pub returns : goal.returns
returns c =
    together _ _ _ _ _ _
    c.coordinates-at.ensures
    c.curves-curves.ensures
    (c.segment.ensures ∙ of_first _ _ _ _ _ _ (omega arith))
    c.eval.ensures
