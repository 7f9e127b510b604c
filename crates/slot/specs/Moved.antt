-- The points as frames read them, moved by the buses, and the curve that they make. Assumes nothing.
use Rattle.std.specs.Prelude.{ℕ, ◌<◌, false, cond, List, replicate, slice_index_or, Float, None, Option, Some}
use Rattle.std.specs.Float.{nan}
use Rattle.shape.specs.declared.Shape.{Shape}
use Rattle.shape.specs.Shapes.{modulated_of, curves_of}
use Rattle.path.specs.declared.Path.{Path}
use Rattle.path.specs.Paths.{modulated_path, bends_of}
use Rattle.settings.specs.declared.choices.LfoType.{LfoType}
use Rattle.settings.specs.declared.choices.LfoType.TheVariants as LfoType
use Rattle.voice.specs.Source.{is_path}
use Rattle.voice.specs.Curve.{Curve, curve_by}
use Rattle.slot.specs.declared.moved.Lists.{Lists}

-- a shape's, with the strengths and the steps of its segments
unfoldable pub shape_lists : Shape → List Float → Lists
shape_lists shape buses =
    let at = modulated_of shape.points shape.len buses in
    let curves = curves_of shape.points shape.len in
    record { xs = at.xs; ys = at.ys; es = curves.es; steps = curves.steps }

-- a path's, with their bends and no steps
unfoldable pub path_lists : Path → List Float → Lists
path_lists path buses =
    let at = modulated_path path.points path.len buses in
    record { xs = at.xs; ys = at.ys; es = bends_of path.points path.len; steps = replicate 64 false }

-- a path's for Path, and for every other type the shape's
unfoldable pub lists_of : LfoType → Shape → Path → List Float → Lists
lists_of kind shape path buses = cond (is_path kind) (path_lists path buses) (shape_lists shape buses)

abbrev pub points_of : LfoType → ℕ → ℕ → ℕ
points_of kind shape path = cond (is_path kind) path shape

-- the loopback point, if any, is one of n points
abbrev pub LoopbackIn : Option ℕ → ℕ → Type 0
LoopbackIn None n = Unit
LoopbackIn (Some i) n = i < n

-- where a loopback point is, as moved
abbrev pub loop_at : Option ℕ → List Float → Option Float
loop_at None xs = None
loop_at (Some i) xs = Some (slice_index_or xs i nan)

-- only a drawn shape loops back
unfoldable pub loop_of : LfoType → Option ℕ → List Float → Option Float
loop_of LfoType.Drawn loopback xs = loop_at loopback xs
loop_of LfoType.Path loopback xs = None
loop_of LfoType.Lorenz loopback xs = None
loop_of LfoType.Rossler loopback xs = None
loop_of LfoType.SampleAndHold loopback xs = None

-- the curve that frames of a type read, of these lists
abbrev pub curve_with : LfoType → Shape → Path → Lists → Curve
curve_with kind shape path l =
    curve_by l.xs l.ys l.es l.steps (points_of kind shape.len path.len) path.times path.closed (loop_of kind shape.loopback l.xs)

unfoldable pub moved_curve : LfoType → Shape → Path → List Float → Curve
moved_curve kind shape path buses = curve_with kind shape path (lists_of kind shape path buses)
