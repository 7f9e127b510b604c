-- Segments of an XY path. Assumes nothing.
use Rattle.std.specs.Prelude.{ℕ, suc, ◌-◌, ◌%◌, Bool, true, false, cond, ◌&&◌, List, eqb, ltb, get_or, Float}
use Rattle.std.specs.Float.{nan, inf}
use Rattle.std.specs.Float.Ieee.{neg, le, lt}
use Rattle.floatlaws.specs.Numbers.{f32_0, f32_½, f32_1, f32_4}
use Rattle.floatlaws.specs.Rounded.{◌+₃₂◌, ◌-₃₂◌, ◌×₃₂◌, ◌÷₃₂◌}
use Rattle.points.specs.Arrays.{partition_point}
use Rattle.path_segments.specs.declared.PathSegment.{PathSegment}
use Rattle.path_segments.specs.declared.Xy.{Xy}
use Rattle.path_segments.specs.Times.{segments_of}

-- x and y over lo ≤ t < hi
abbrev pub path_hold : Float → Float → Float → Float → PathSegment
path_hold lo hi x y = record { lo = lo; hi = hi; t0 = f32_0; inv_w = f32_0; ax = x; dx = f32_0; nx = f32_0; ay = y; dy = f32_0; ny = f32_0 }

-- The void segment, all zeros: it holds no t (`PathVoid` of Laws.antt). It stands for the Rust's `PathSegment::default()` and for the same with a lo of NaN, which hold none either.
abbrev pub empty_path : PathSegment
empty_path = path_hold f32_0 f32_0 f32_0 f32_0

-- from x, y at t0 by dx, dy until t1, bowed to its left by half the bend times the leg
abbrev pub path_between : Float → Float → Float → Float → Float → Float → Float → PathSegment
path_between t0 t1 x y dx dy bend =
    record {
      lo = t0;
      hi = t1;
      t0 = t0;
      inv_w = f32_1 ÷₃₂ (t1 -₃₂ t0);
      ax = x;
      dx = dx;
      nx = neg (bend ×₃₂ f32_½) ×₃₂ dy;
      ay = y;
      dy = dy;
      ny = bend ×₃₂ f32_½ ×₃₂ dx;
    }

-- whether it holds t
abbrev pub path_contains : PathSegment → Float → Bool
path_contains s t = le s.lo t && lt t s.hi

-- where t falls in it, 0 to 1
abbrev pub path_u : PathSegment → Float → Float
path_u s t = (t -₃₂ s.t0) ×₃₂ s.inv_w

-- a + u d + h n
abbrev pub coordinate : Float → Float → Float → Float → Float → Float
coordinate u h a d n = a +₃₂ u ×₃₂ d +₃₂ h ×₃₂ n

-- X and Y at u, with h = 4 u (1 - u)
abbrev pub path_point : Float → PathSegment → Xy
path_point u s =
    let h = f32_4 ×₃₂ u ×₃₂ (f32_1 -₃₂ u) in
    record { x = coordinate u h s.ax s.dx s.nx; y = coordinate u h s.ay s.dy s.ny }

-- X and Y at t
abbrev pub path_eval : PathSegment → Float → Xy
path_eval s t = path_point (path_u s t) s

-- the point at which a path ends: a closed one at its first
unfoldable pub last_of : ℕ → Bool → ℕ
last_of len closed = cond closed 0 (len - 1)

-- from point i - 1 to the one after it, which after the last point is the first
unfoldable pub leg_segment : List Float → List Float → List Float → List Float → ℕ → ℕ → PathSegment
leg_segment xs ys bends times len i =
    let a = i - 1 in
    let b = i % len in
    let x = get_or xs a nan in
    let y = get_or ys a nan in
    path_between (get_or times a nan) (get_or times i nan) x y (get_or xs b nan -₃₂ x) (get_or ys b nan -₃₂ y) (get_or bends a nan)

-- The segment after the first i of the n + 1 times: before the first time the first point holds, and after the last the one at which the path ends.
unfoldable pub path_segment_at : List Float → List Float → List Float → List Float → ℕ → Bool → ℕ → ℕ → PathSegment
path_segment_at xs ys bends times len closed n i =
    let last = last_of len closed in
    cond (eqb i 0) (path_hold (inf true) (get_or times 0 nan) (get_or xs 0 nan) (get_or ys 0 nan))
    (cond (ltb n i) (path_hold (get_or times n nan) (inf false) (get_or xs last nan) (get_or ys last nan))
    (leg_segment xs ys bends times len i))

-- The segment that holds t; of no points, 0 everywhere, and of a path with no segment, its first point. A NaN, which no accepted call gives, counts as before the first time.
unfoldable pub path_segment : List Float → List Float → List Float → List Float → ℕ → Bool → Float → PathSegment
path_segment xs ys bends times len closed t =
    let n = segments_of len closed in
    cond (eqb len 0) (path_hold (inf true) (inf false) f32_0 f32_0)
    (cond (eqb n 0) (path_hold (inf true) (inf false) (get_or xs 0 nan) (get_or ys 0 nan))
    (path_segment_at xs ys bends times len closed n (partition_point times (suc n) t)))

-- ---- what the laws speak of

-- `path_segment` as the Rust text has it, which asks for ascending times from 0 and for a t that is no NaN
unfoldable pub rust_path_segment : List Float → List Float → List Float → List Float → ℕ → Bool → Float → PathSegment
rust_path_segment xs ys bends times len closed t =
    let n = segments_of len closed in
    let j = partition_point times (suc n) t - 1 in
    let end = get_or times n nan in
    let last = last_of len closed in
    cond (eqb len 0) (path_hold (inf true) (inf false) f32_0 f32_0)
    (cond (eqb n 0) (path_hold (inf true) (inf false) (get_or xs 0 nan) (get_or ys 0 nan))
    (cond (lt t f32_0) (path_hold (inf true) f32_0 (get_or xs 0 nan) (get_or ys 0 nan))
    (cond (le end t) (path_hold end (inf false) (get_or xs last nan) (get_or ys last nan))
    (leg_segment xs ys bends times len (suc j)))))
