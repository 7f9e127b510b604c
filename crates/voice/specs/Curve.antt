-- The curve that a stretch of frames reads, its points as moved by their buses, and what may be kept of a search. Assumes nothing.
use Rattle.std.specs.Prelude.{◌≡◌, ℕ, suc, ◌≤◌, Bool, T, List, Float, Option}
use Rattle.points.specs.Arrays.{Ascends}
use Rattle.shape_segments.specs.declared.Segment.{Segment}
use Rattle.shape_segments.specs.Segments.{empty_segment, contains_of, drawn_segment}
use Rattle.path_segments.specs.declared.PathSegment.{PathSegment}
use Rattle.path_segments.specs.Times.{segments_of}
use Rattle.path_segments.specs.Segments.{empty_path, path_contains, path_segment}
use Rattle.settings.specs.declared.choices.LfoType.{LfoType}
use Rattle.settings.specs.declared.choices.LfoType.TheVariants.{Drawn, Path, Lorenz, Rossler, SampleAndHold}
use Rattle.voice.specs.declared.curve.CurveView.{CurveView}
use Rattle.voice.specs.declared.generator.Kept.{Kept}

-- n points at xs, ys: a shape's with their strengths and steps and the x of its loopback point, or a path's with their bends and times
pub record Curve : Type 0 where
  pub xs : List Float
  pub ys : List Float
  pub es : List Float
  pub steps : List Bool
  pub n : ℕ
  pub times : List Float
  pub closed : Bool
  pub from : Option Float

-- the curve that is lent
abbrev pub curve_of : CurveView → Curve
curve_of v =
    record { xs = v.xs.now; ys = v.ys.now; es = v.es.now; steps = v.steps.now; n = v.n; times = v.times.now; closed = v.closed; from = v.from }

abbrev pub curve_by : List Float → List Float → List Float → List Bool → ℕ → List Float → Bool → Option Float → Curve
curve_by xs ys es steps n times closed from =
    record { xs = xs; ys = ys; es = es; steps = steps; n = n; times = times; closed = closed; from = from }

-- the segments that a search finds
abbrev pub drawn_at : Curve → Float → Segment
drawn_at q p = drawn_segment q.xs q.ys q.es q.steps q.n p

abbrev pub path_at : Curve → Float → PathSegment
path_at q p = path_segment q.xs q.ys q.es q.times q.n q.closed p

-- what a search relies on: at most 64 points; a shape's x, or a path's times, ascend
unfoldable pub Searchable : LfoType → Curve → Type 0
Searchable Drawn q = (q.n ≤ 64) × Ascends q.xs q.n
Searchable Path q = (q.n ≤ 64) × Ascends q.times (suc (segments_of q.n q.closed))
Searchable Lorenz q = Unit
Searchable Rossler q = Unit
Searchable SampleAndHold q = Unit

-- a kept segment is the one that a search finds at each position that it holds
abbrev pub HoldsDrawn : (Float → Segment) → Segment → Type 0
HoldsDrawn find s = (p : Float) → T (contains_of s p) → s ≡ find p

abbrev pub HoldsPath : (Float → PathSegment) → PathSegment → Type 0
HoldsPath find s = (p : Float) → T (path_contains s p) → s ≡ find p

unfoldable pub KeptFor : LfoType → Curve → Kept → Type 0
KeptFor Drawn q k = HoldsDrawn (drawn_at q) k.seg
KeptFor Path q k = HoldsPath (path_at q) k.path_seg
KeptFor Lorenz q k = Unit
KeptFor Rossler q k = Unit
KeptFor SampleAndHold q k = Unit

abbrev pub void_kept : Kept
void_kept = record { seg = empty_segment; path_seg = empty_path }
