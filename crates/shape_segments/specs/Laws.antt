-- What holds of a search among n points. Proved in proofs/First.antt, and in proofs/KeptSegment.antt and proofs/RustSegment.antt where the xs ascend, as those of an accepted shape do wherever the buses move them (`ShapeAscends` of crate shape). Assumes nothing.
use Rattle.std.specs.Prelude.{ℕ, ◌≡◌, ◌≤◌, Bool, not, List, T, length, take, Float}
use Rattle.std.specs.Float.Ieee.{is_nan}
use Rattle.std.specs.Float.Ieee.Scale.{finite}
use Rattle.points.specs.Arrays.{Ascends}
use Rattle.shape_segments.specs.Segments.{empty_segment, contains_of, drawn_segment, rust_segment}

module _ (xs ys es : List Float) (steps : List Bool) (n : ℕ) where
  -- "It holds lo ≤ x < hi": the segment found for x holds x
  abbrev pub SegmentHolds : Type 0
  SegmentHolds = (x : Float) → T (finite x) → T (contains_of (drawn_segment xs ys es steps n x) x)

  -- The segment found for q, where it holds p, is the one found for p: so it may be kept while it holds the position.
  abbrev pub SegmentKept : Type 0
  SegmentKept = (q p : Float) → T (contains_of (drawn_segment xs ys es steps n q) p) → drawn_segment xs ys es steps n q ≡ drawn_segment xs ys es steps n p

  -- the search finds what the Rust text gives
  abbrev pub SegmentRust : Type 0
  SegmentRust = (x : Float) → T (not (is_nan x)) → drawn_segment xs ys es steps n x ≡ rust_segment xs ys es steps n x

-- each of them where the xs ascend
abbrev pub OfAscending : (List Float → List Float → List Float → List Bool → ℕ → Type 0) → Type 0
OfAscending Law = (xs ys es : List Float) (steps : List Bool) (n : ℕ) → Ascends xs n → Law xs ys es steps n

-- the first n of more points are as good as all of them
abbrev pub SegmentOfFirst : Type 0
SegmentOfFirst = (xs ys es : List Float) (steps : List Bool) (n : ℕ) (x : Float) → n ≤ length xs → drawn_segment (take n xs) ys es steps (length (take n xs)) x ≡ drawn_segment xs ys es steps n x

-- "After a curve edit or a bus move the kept segment is void": the void segment holds nothing, so the next frame searches
abbrev pub SegmentVoid : Type 0
SegmentVoid = (x : Float) → T (contains_of empty_segment x) → ⊥
