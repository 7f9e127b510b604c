-- The points and the times that are lent to a search. Assumes nothing.
use Rattle.std.specs.Prelude.{ℕ, ◌≤◌, ◌<◌, length, Float}
use Rattle.path_segments.specs.declared.PathSegment.{PathSegment}
use Rattle.path_segments.specs.declared.PathView.{PathView}
use Rattle.path_segments.specs.Segments.{leg_segment, path_segment_at, path_segment}

-- each point has its y, its bend and a time, and there is a time more
abbrev pub EachHasAll : PathView → Type 0
EachHasAll v = (length v.xs.now ≤ length v.ys.now) × (length v.xs.now ≤ length v.bends.now) × (length v.xs.now < length v.times.now)

-- from point i - 1 to the one after it
abbrev pub leg_after : PathView → ℕ → PathSegment
leg_after v i = leg_segment v.xs.now v.ys.now v.bends.now v.times.now (length v.xs.now) i

-- the segment after the first i of the n + 1 times
abbrev pub segment_after : PathView → ℕ → ℕ → PathSegment
segment_after v n i = path_segment_at v.xs.now v.ys.now v.bends.now v.times.now (length v.xs.now) v.closed n i

-- the segment that holds t
abbrev pub segment_of : PathView → Float → PathSegment
segment_of v t = path_segment v.xs.now v.ys.now v.bends.now v.times.now (length v.xs.now) v.closed t
