-- On ascending times a found path segment holds its time, and a path segment that holds a time is the one that a search finds there: so it may be kept. Assumes nothing.
use mathlib.Core.Path.{◌≡◌, refl, sym, ◌∙◌, subst}
use mathlib.Core.Bool.{Bool}
use mathlib.Core.List.{List}
use Prim.Native.Nat.{ℕ, zero, suc, ◌≤◌}
use native.Mathlib.Omega.{arith}
use native.Mathlib.Decide.{ℕ_discrete}
use lib.Dec.{T}
use lib.Ieee.{Float, le, lt}
use lib.Ieee.Fits.{and_l, and_r}
use lib.Ieee.Scale.{finite}
use borrow.Author.Tests.{lt-ltb, le-ltb}
use Rattle.floatlaws.specs.Numbers.{f32_0}
use Rattle.floatlaws.proofs.Order.{lt_not_le}
use Rattle.listlaws.proofs.LastWhere.{back, later}
use Rattle.points.specs.Arrays.{Ascends, partition_point}
use Rattle.points.proofs.Partition.{partition_le}
use Rattle.points.proofs.Bounds.{lower, upper, everywhere, place_holds, holds_place}
use Rattle.path_segments.specs.declared.PathSegment.{PathSegment}
use Rattle.path_segments.specs.Times.{segments_of}
use Rattle.path_segments.specs.Segments.{path_contains, leg_segment, path_segment_at, path_segment}
use Rattle.path_segments.specs.Laws.{OfTimes, PathHolds, PathKept, PathVoid}
use Rattle.path_segments.proofs.Cases.{no_points, no_segment, at_place}

module _ (xs ys bends times : List Float) (len : ℕ) (closed : Bool) where
  -- ---- the bounds of the segment after the first i of n + 1 times

  segment_lo : (n i : ℕ) → i ≤ suc n → (path_segment_at xs ys bends times len closed n i).lo ≡ lower times i
  unfolding path_segment_at leg_segment
  segment_lo n zero h = refl
  segment_lo n (suc k) h = go (ℕ_discrete k n)
    where
      go : Dec (k ≡ n) → (path_segment_at xs ys bends times len closed n (suc k)).lo ≡ lower times (suc k)
      go (yes e) = rw (later k, lt-ltb n (suc k) (omega arith), e)
      go (no d) = rw (later k, le-ltb n (suc k) (omega arith), back k)

  segment_hi : (n i : ℕ) → i ≤ suc n → (path_segment_at xs ys bends times len closed n i).hi ≡ upper times (suc n) i
  unfolding path_segment_at leg_segment
  segment_hi n zero h = rw (lt-ltb 0 (suc n) (omega arith))
  segment_hi n (suc k) h = go (ℕ_discrete k n)
    where
      go : Dec (k ≡ n) → (path_segment_at xs ys bends times len closed n (suc k)).hi ≡ upper times (suc n) (suc k)
      go (yes e) = rw (later k, lt-ltb n (suc k) (omega arith), le-ltb (suc k) (suc n) (omega arith))
      go (no d) = rw (later k, le-ltb n (suc k) (omega arith), lt-ltb (suc k) (suc n) (omega arith))

  module _ (up : Ascends times (suc (segments_of len closed))) where
    abbrev n : ℕ
    n = segments_of len closed

    -- the segment at the place of a time holds it
    place_found : (t : Float) → T (finite t) → T (path_contains (path_segment_at xs ys bends times len closed n (partition_point times (suc n) t)) t)
    place_found t f =
        let i = partition_point times (suc n) t in
        let h = partition_le times (suc n) t in
        rw (segment_lo n i h, segment_hi n i h) (place_holds times (suc n) up t f)

    -- a time that the segment at a place holds has that place
    same_place : (p : Float) (i : ℕ) → i ≤ suc n → T (path_contains (path_segment_at xs ys bends times len closed n i) p) → partition_point times (suc n) p ≡ i
    same_place p i h holds = holds_place times (suc n) up p i h (rw (segment_lo n i h, segment_hi n i h) at holds)

-- ---- of a search

pub found_holds : OfTimes PathHolds
found_holds xs ys bends times len closed up t f = go (ℕ_discrete len 0) (ℕ_discrete (segments_of len closed) 0)
  where
    go : Dec (len ≡ 0) → Dec (segments_of len closed ≡ 0) → T (path_contains (path_segment xs ys bends times len closed t) t)
    go (yes none) legs = rw (no_points xs ys bends times len closed t none) (everywhere t f)
    go (no some) (yes none) = rw (no_segment xs ys bends times len closed t (segments_of len closed) some refl none) (everywhere t f)
    go (no some) (no legs) =
        let n = segments_of len closed in
        rw (at_place xs ys bends times len closed t n some refl (partition_point times (suc n) t) legs refl) (place_found xs ys bends times len closed up t f)

pub kept_path : OfTimes PathKept
kept_path xs ys bends times len closed up q p holds = go (ℕ_discrete len 0) (ℕ_discrete (segments_of len closed) 0)
  where
    go : Dec (len ≡ 0) → Dec (segments_of len closed ≡ 0) → path_segment xs ys bends times len closed q ≡ path_segment xs ys bends times len closed p
    go (yes none) legs = no_points xs ys bends times len closed q none ∙ sym (no_points xs ys bends times len closed p none)
    go (no some) (yes none) =
        let n = segments_of len closed in no_segment xs ys bends times len closed q n some refl none ∙ sym (no_segment xs ys bends times len closed p n some refl none)
    go (no some) (no legs) =
        let n = segments_of len closed in
        let i = partition_point times (suc n) q in
        let e = at_place xs ys bends times len closed q n some refl i legs refl in
        e
        ∙ sym (at_place xs ys bends times len closed p n some refl i legs (sym (same_place xs ys bends times len closed up p i (partition_le times (suc n) q) (subst (λ (s : PathSegment). T (path_contains s p)) e holds))))

pub empty_holds_nothing : PathVoid
empty_holds_nothing t h = lt_not_le t f32_0 (and_r (le f32_0 t) (lt t f32_0) h) (and_l (le f32_0 t) (lt t f32_0) h)
