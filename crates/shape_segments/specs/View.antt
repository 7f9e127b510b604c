-- The points that are lent to a search. Assumes nothing.
use Rattle.std.specs.Prelude.{ℕ, ◌≤◌, length, Float}
use Rattle.shape_segments.specs.declared.Segment.{Segment}
use Rattle.shape_segments.specs.declared.DrawnView.{DrawnView}
use Rattle.shape_segments.specs.Segments.{segment_at, drawn_segment}

-- each point has its y, its strength and whether it is a step
abbrev pub EachHasAll : DrawnView → Type 0
EachHasAll v = (length v.xs.now ≤ length v.ys.now) × (length v.xs.now ≤ length v.es.now) × (length v.xs.now ≤ length v.steps.now)

-- the segment after the first i of the points
abbrev pub segment_after : DrawnView → ℕ → Segment
segment_after v i = segment_at v.xs.now v.ys.now v.es.now v.steps.now (length v.xs.now) i

-- the segment that holds x
abbrev pub segment_of : DrawnView → Float → Segment
segment_of v x = drawn_segment v.xs.now v.ys.now v.es.now v.steps.now (length v.xs.now) x
