-- What document 01 says of a shape's points, and of the segments of every shape that is accepted. Proved in proofs/Sorted.antt, proofs/Slots.antt, proofs/Ranges.antt, proofs/Modulation.antt and proofs/Accepted.antt. Assumes nothing.
use Rattle.std.specs.Prelude.{ℕ, ◌≤◌, ◌<◌, ◌≡◌, min, Bool, not, T, length, take, get_or, Float}
use mathlib.Core.List.{List, Perm}
use Rattle.std.specs.Float.{nan}
use Rattle.std.specs.Float.Ieee.{le, is_nan}
use Rattle.floatlaws.specs.Numbers.{Between, f32_0, f32_1}
use Rattle.listlaws.specs.Tables.{select}
use Rattle.points.specs.declared.Coordinates.{Coordinates}
use Rattle.points.specs.Arrays.{Ascends}
use Rattle.points.specs.Modulation.{FiniteBuses}
use Rattle.shape_segments.specs.Laws.{SegmentHolds, SegmentKept, SegmentRust}
use Rattle.shape.specs.declared.Shape.{Shape}
use Rattle.shape.specs.declared.sorting.Point.{Point}
use Rattle.shape.specs.Points.{no_point, clamped_point, sorted_points, sorted_array, clamped_points, same_x, Numbers, InRange, FinitePoint}
use Rattle.shape.specs.Shapes.{new_shape, with_points, coordinates_of, modulated_of, NumbersX, NumbersY}

-- ---- "Shape points are clamped, then sorted by x; equal x keep their order"

-- in the unit square, with the bend in -1 to 1
abbrev pub SortedIn : Type 0
SortedIn = (points : List Point) (n : ℕ) → ((k : ℕ) → k < n → Numbers (get_or points k no_point)) → (k : ℕ) → k < n → InRange (get_or (sorted_points points n) k no_point)

abbrev pub SortedAscends : Type 0
SortedAscends =
    (points : List Point) (n : ℕ) → ((k : ℕ) → k < n → T (not (is_nan (clamped_point (get_or points k no_point)).x))) → (i j : ℕ) → i ≤ j → j < n
    → T (le (get_or (sorted_points points n) i no_point).x (get_or (sorted_points points n) j no_point).x)

-- they are the points that were handed in, each as often
abbrev pub SortedPermutes : Type 0
SortedPermutes = (points : List Point) (n : ℕ) → Perm (sorted_points points n) (clamped_points points n)

-- those of one x, 0 and -0 being one, stand in the order in which they were handed in
abbrev pub SortedStable : Type 0
SortedStable = (points : List Point) (x : Float) (n : ℕ) → select (same_x x) (sorted_points points n) ≡ select (same_x x) (clamped_points points n)

-- so the xs of a shape's kept points ascend
abbrev pub DrawnAscends : Type 0
DrawnAscends = (points : List Point) (n : ℕ) → ((k : ℕ) → k < n → Numbers (get_or points k no_point)) → Ascends (coordinates_of (sorted_array points n) n).xs n

-- the first of more points, as many as are kept of n, are as good as all of them
abbrev pub ShapeOfFirst : Type 0
ShapeOfFirst =
    (points : List Point) (n : ℕ) → min n 64 ≤ length points
    → let first = take (min n 64) points in
    (new_shape first (length first) ≡ new_shape points n) × ((s : Shape) → with_points s first (length first) ≡ with_points s points n)

-- ---- "modulated x ascend within 0 to 1"; and modulated y lie within 0 to 1

abbrev pub ModulatedAscends : Type 0
ModulatedAscends = (points : List Point) (buses : List Float) (n : ℕ) → NumbersX points buses n → Ascends (modulated_of points n buses).xs n

abbrev pub ModulatedX : Type 0
ModulatedX = (points : List Point) (buses : List Float) (n : ℕ) → NumbersX points buses n → (i : ℕ) → i < n → Between f32_0 (get_or (modulated_of points n buses).xs i nan) f32_1

abbrev pub ModulatedY : Type 0
ModulatedY = (points : List Point) (buses : List Float) (n : ℕ) → NumbersY points buses n → (i : ℕ) → i < n → Between f32_0 (get_or (modulated_of points n buses).ys i nan) f32_1

-- ---- of every shape that is accepted, wherever finite buses move its kept points

-- as question 2 asks, of the first n points
abbrev pub FinitePoints : List Point → ℕ → Type 0
FinitePoints points n = (k : ℕ) → k < n → FinitePoint (get_or points k no_point)

-- a law of the coordinates of the first n points
abbrev pub EachShape : (Coordinates → ℕ → Type 0) → Type 0
EachShape Law = (points : List Point) (n : ℕ) → FinitePoints points n → (buses : List Float) → FiniteBuses buses → Law (modulated_of (sorted_array points n) n buses) n

abbrev pub ShapePlaced : Type 0
ShapePlaced = EachShape λ at n. (i : ℕ) → i < n → Between f32_0 (get_or at.xs i nan) f32_1 × Between f32_0 (get_or at.ys i nan) f32_1

abbrev pub ShapeAscends : Type 0
ShapeAscends = EachShape λ at n. Ascends at.xs n

-- "It holds lo ≤ x < hi"; a kept segment that holds the position is the one that a search finds there; and a search finds what the Rust's does
abbrev pub ShapeSearch : Type 0
ShapeSearch =
    EachShape λ at n. (ys es : List Float) (steps : List Bool) → SegmentHolds at.xs ys es steps n × SegmentKept at.xs ys es steps n × SegmentRust at.xs ys es steps n
