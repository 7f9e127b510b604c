-- Segments of a drawn shape. Assumes nothing.
use Rattle.std.specs.Prelude.{ℕ, suc, ◌-◌, Bool, true, false, cond, ◌&&◌, List, eqb, get_or, Float}
use Rattle.std.specs.Float.{nan, inf}
use Rattle.std.specs.Float.Ieee.{le, lt}
use Rattle.floatlaws.specs.Numbers.{f32_0, f32_1}
use Rattle.floatlaws.specs.Rounded.{◌+₃₂◌, ◌-₃₂◌, ◌×₃₂◌, ◌÷₃₂◌}
use Rattle.points.specs.Arrays.{partition_point}
use Rattle.shape_segments.specs.declared.Segment.{Segment}

-- The void segment: it holds no x (`SegmentVoid` of Laws.antt). It stands for the Rust's `Segment::hold(NAN, NAN, 0.0)`, which holds none either.
abbrev pub empty_segment : Segment
empty_segment = record { lo = f32_0; hi = f32_0; x0 = f32_0; inv_w = f32_0; y0 = f32_0; dy = f32_0; e = f32_0 }

-- y over lo ≤ x < hi
abbrev pub hold_of : Float → Float → Float → Segment
hold_of lo hi y = record { lo = lo; hi = hi; x0 = f32_0; inv_w = f32_0; y0 = y; dy = f32_0; e = f32_1 }

-- from y0 at x0 to y1 at x1, bent by e
abbrev pub between_of : Float → Float → Float → Float → Float → Segment
between_of x0 x1 y0 y1 e = record { lo = x0; hi = x1; x0 = x0; inv_w = f32_1 ÷₃₂ (x1 -₃₂ x0); y0 = y0; dy = y1 -₃₂ y0; e = e }

-- whether it holds x
abbrev pub contains_of : Segment → Float → Bool
contains_of s x = le s.lo x && lt x s.hi

-- where x falls in it, 0 to 1
abbrev pub u_of : Segment → Float → Float
u_of s x = (x -₃₂ s.x0) ×₃₂ s.inv_w

-- from y0 at u = 0 towards y0 + dy at u = 1, bent by e; 1 is straight
abbrev pub curve_of : Float → Float → Float → Float → Float
curve_of u y0 dy e = y0 +₃₂ dy ×₃₂ (u ÷₃₂ (u +₃₂ (f32_1 -₃₂ u) ×₃₂ e))

-- its value at x
abbrev pub eval_of : Segment → Float → Float
eval_of s x = curve_of (u_of s x) s.y0 s.dy s.e

-- The segment after the first i of the n points: before the first point its value holds, and after the last point that one's.
unfoldable pub segment_at : List Float → List Float → List Float → List Bool → ℕ → ℕ → Segment
segment_at xs ys es steps n i =
    let k = i - 1 in
    let x0 = get_or xs k nan in
    let y0 = get_or ys k nan in
    let x1 = get_or xs i nan in
    cond (eqb i 0) (hold_of (inf true) (get_or xs 0 nan) (get_or ys 0 nan))
    (cond (eqb i n) (hold_of x0 (inf false) y0)
    (cond (get_or steps k false) (hold_of x0 x1 y0)
    (between_of x0 x1 y0 (get_or ys i nan) (get_or es k nan))))

-- The segment that holds x; of no points, 0 everywhere. A NaN, which no accepted call gives, counts as before the first point. Where two neighbours lie 2 ^ -128 or less apart the reciprocal of their distance is infinite, and the value between them can be a NaN.
unfoldable pub drawn_segment : List Float → List Float → List Float → List Bool → ℕ → Float → Segment
drawn_segment xs ys es steps n x = cond (eqb n 0) (hold_of (inf true) (inf false) f32_0) (segment_at xs ys es steps n (partition_point xs n x))

-- ---- what the laws speak of

-- `drawn_segment` as the Rust text has it, which asks for ascending xs and for an x that is no NaN
unfoldable pub rust_segment : List Float → List Float → List Float → List Bool → ℕ → Float → Segment
rust_segment xs ys es steps n x =
    let i = partition_point xs n x - 1 in
    let x0 = get_or xs i nan in
    let x1 = get_or xs (suc i) nan in
    let y0 = get_or ys i nan in
    cond (eqb n 0) (hold_of (inf true) (inf false) f32_0)
    (cond (lt x (get_or xs 0 nan)) (hold_of (inf true) (get_or xs 0 nan) (get_or ys 0 nan))
    (cond (le (get_or xs (n - 1) nan) x) (hold_of (get_or xs (n - 1) nan) (inf false) (get_or ys (n - 1) nan))
    (cond (get_or steps i false) (hold_of x0 x1 y0)
    (between_of x0 x1 y0 (get_or ys (suc i) nan) (get_or es i nan)))))
