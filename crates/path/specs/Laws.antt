-- What holds of every path: its points, its legs, its times and its segments. Proved in proofs/PathRanges.antt, proofs/PathLegs.antt, proofs/First.antt and proofs/PathTimes.antt. Assumes nothing.
use Rattle.std.specs.Prelude.{ℕ, suc, ◌+◌, ◌%◌, ◌<◌, ◌≤◌, ◌≡◌, min, Bool, not, List, T, length, take, get_or, Float}
use Rattle.std.specs.Float.{nan}
use Rattle.std.specs.Float.Ieee.{is_nan}
use Rattle.floatlaws.specs.Numbers.{Between, f32_0, f32_1, f32_minus1}
use Rattle.points.specs.Arrays.{Ascends}
use Rattle.points.specs.Modulation.{moved_of}
use Rattle.leg.specs.Root.{LegBetween}
use Rattle.path_segments.specs.Times.{segments_of, LegsIn}
use Rattle.path_segments.specs.Laws.{PathHolds, PathKept, PathRust}
use Rattle.path.specs.declared.PathPoint.{PathPoint}
use Rattle.path.specs.declared.Path.{Path}
use Rattle.path.specs.Paths.{no_path_point, clamped_path_point, PointOnPaper, legs_of, path_legs, path_of, modulated_path}

-- ---- "Path points are clamped": in the unit square, with the bend in -1 to 1

abbrev pub PathNumbers : PathPoint → Type 0
PathNumbers p = T (not (is_nan p.x)) × T (not (is_nan p.y)) × T (not (is_nan p.bend))

abbrev pub PathInRange : PathPoint → Type 0
PathInRange p = Between f32_0 p.x f32_1 × Between f32_0 p.y f32_1 × Between f32_minus1 p.bend f32_1

abbrev pub ClampedIn : Type 0
ClampedIn = (p : PathPoint) → PathNumbers p → PathInRange (clamped_path_point p)

-- modulated too, each coordinate that its bus moves to a number lies within 0 to 1
module _ (points : List PathPoint) (buses : List Float) (n : ℕ) where
  abbrev pub PathNumbersX : Type 0
  PathNumbersX = (k : ℕ) → k < n → T (not (is_nan (moved_of (get_or points k no_path_point).x (get_or points k no_path_point).x_mod buses)))

  abbrev pub PathNumbersY : Type 0
  PathNumbersY = (k : ℕ) → k < n → T (not (is_nan (moved_of (get_or points k no_path_point).y (get_or points k no_path_point).y_mod buses)))

abbrev pub PathModulatedX : Type 0
PathModulatedX = (points : List PathPoint) (buses : List Float) (n : ℕ) → PathNumbersX points buses n → (i : ℕ) → i < n → Between f32_0 (get_or (modulated_path points n buses).xs i nan) f32_1

abbrev pub PathModulatedY : Type 0
PathModulatedY = (points : List PathPoint) (buses : List Float) (n : ℕ) → PathNumbersY points buses n → (i : ℕ) → i < n → Between f32_0 (get_or (modulated_path points n buses).ys i nan) f32_1

-- ---- legs

-- each is within 0 to 2, whatever the points
abbrev pub LegsWithin : Type 0
LegsWithin = (points : List PathPoint) (len n : ℕ) → LegsIn (legs_of points len n) n

-- on the paper leg j is the leg between point j and the one after it, which after the last point is the first
abbrev pub PathLegsBetween : Type 0
PathLegsBetween =
    (p : Path) → ((k : ℕ) → k < p.len → PointOnPaper (get_or p.points k no_path_point)) → (j : ℕ) → j < segments_of p.len p.closed
    → let a = get_or p.points j no_path_point in
    let b = get_or p.points ((j + 1) % p.len) no_path_point in LegBetween a.x a.y b.x b.y (get_or (path_legs p) j nan)

-- the first of more points, as many as are kept of n, are as good as all of them
abbrev pub PathOfFirstPoints : Type 0
PathOfFirstPoints =
    (points : List PathPoint) (n : ℕ) (closed : Bool) → min n 64 ≤ length points
    → path_of (take (min n 64) points) (length (take (min n 64) points)) closed ≡ path_of points n closed

-- and so are they for the legs
abbrev pub LegsOfFirst : Type 0
LegsOfFirst =
    (points : List PathPoint) (n : ℕ) (closed : Bool) → n ≤ length points
    → let first = take n points in legs_of first (length first) (segments_of (length first) closed) ≡ legs_of points n (segments_of n closed)

-- ---- times and segments, of every path that a call makes

abbrev pub segment_count : Path → ℕ
segment_count p = segments_of p.len p.closed

-- the times ascend from 0, and where there is a segment to exactly 1
pub record PathTimes (p : Path) : Type 0 where
  pub ascend : Ascends p.times (suc (segment_count p))
  pub start : get_or p.times 0 nan ≡ f32_0
  pub end : 0 < segment_count p → get_or p.times (segment_count p) nan ≡ f32_1

abbrev pub PathTimesRule : Type 0
PathTimesRule = (points : List PathPoint) (n : ℕ) (closed : Bool) → PathTimes (path_of points n closed)

-- With its points anywhere, as the buses move them: "It holds lo ≤ x < hi"; a kept segment that holds the position is the one that a search finds there; and a search finds what the Rust's does.
abbrev pub PathSearch : Type 0
PathSearch =
    (points : List PathPoint) (n : ℕ) (closed : Bool) (xs ys bends : List Float)
    → let p = path_of points n closed in PathHolds xs ys bends p.times p.len closed × PathKept xs ys bends p.times p.len closed × PathRust xs ys bends p.times p.len closed
