-- On ascending xs a found segment holds its position, and a segment that holds a position is the one that a search finds there: so it may be kept. Assumes nothing.
use mathlib.Core.Path.{◌≡◌, refl, sym, ◌∙◌, subst}
use mathlib.Core.Bool.{Bool, true, false, cond}
use mathlib.Core.List.{List}
use Prim.Native.Nat.{ℕ, zero, suc, ◌≤◌, ◌<◌}
use native.Mathlib.Omega.{arith}
use native.Mathlib.Decide.{ℕ_discrete}
use lib.Dec.{T, eqb}
use lib.ListN.{get_or}
use lib.Ieee.{Float, nan, inf, le, lt}
use lib.Ieee.Fits.{and_l, and_r}
use lib.Ieee.Scale.{finite}
use borrow.Author.Tests.{eq-eqb, ne_eqb, lt-ltb, le-ltb}
use Rattle.floatlaws.specs.Numbers.{f32_0}
use Rattle.floatlaws.proofs.Order.{lt_not_le}
use Rattle.listlaws.proofs.LastWhere.{back, later}
use Rattle.points.specs.Arrays.{Ascends, partition_point}
use Rattle.points.proofs.Partition.{partition_le}
use Rattle.points.proofs.Bounds.{lower, upper, everywhere, place_holds, holds_place}
use Rattle.shape_segments.specs.declared.Segment.{Segment}
use Rattle.shape_segments.specs.Segments.{hold_of, between_of, contains_of, segment_at, drawn_segment}
use Rattle.shape_segments.specs.Laws.{OfAscending, SegmentHolds, SegmentKept, SegmentVoid}
use Rattle.shape_segments.proofs.Cases.{no_points, at_place}

module _ (xs ys es : List Float) (steps : List Bool) (n : ℕ) where
  -- ---- the bounds of the segment after the first i of n points

  segment_lo : (i : ℕ) → (segment_at xs ys es steps n i).lo ≡ lower xs i
  unfolding segment_at
  segment_lo zero = refl
  segment_lo (suc k) = rw (later k, back k) (go (eqb (suc k) n) (get_or steps k false))
    where
      go : (last step : Bool)
          → (cond last (hold_of (get_or xs k nan) (inf false) (get_or ys k nan))
          (cond step (hold_of (get_or xs k nan) (get_or xs (suc k) nan) (get_or ys k nan))
          (between_of (get_or xs k nan) (get_or xs (suc k) nan) (get_or ys k nan) (get_or ys (suc k) nan) (get_or es k nan)))).lo
          ≡ get_or xs k nan
      go true step = refl
      go false true = refl
      go false false = refl

  inner_hi : (i : ℕ) → i < n → (segment_at xs ys es steps n i).hi ≡ get_or xs i nan
  unfolding segment_at
  inner_hi zero h = refl
  inner_hi (suc k) h = rw (later k, ne_eqb (suc k) n (λ (e : suc k ≡ n). omega arith), back k) (go (get_or steps k false))
    where
      go : (step : Bool)
          → (cond step (hold_of (get_or xs k nan) (get_or xs (suc k) nan) (get_or ys k nan))
          (between_of (get_or xs k nan) (get_or xs (suc k) nan) (get_or ys k nan) (get_or ys (suc k) nan) (get_or es k nan))).hi
          ≡ get_or xs (suc k) nan
      go true = refl
      go false = refl

  module _ (some : n ≡ 0 → ⊥) where
    segment_hi : (i : ℕ) → i ≤ n → (segment_at xs ys es steps n i).hi ≡ upper xs n i
    unfolding segment_at
    segment_hi i h = go (ℕ_discrete i n)
      where
        go : Dec (i ≡ n) → (segment_at xs ys es steps n i).hi ≡ upper xs n i
        go (yes e) = rw (ne_eqb i 0 (λ (z : i ≡ 0). some (omega arith)), eq-eqb i n e, le-ltb i n (omega arith))
        go (no d) = let l : i < n = omega arith in inner_hi i l ∙ rw (lt-ltb i n l)

    module _ (up : Ascends xs n) (p : Float) where
      -- the segment at the place of a position holds it
      place_found : T (finite p) → T (contains_of (segment_at xs ys es steps n (partition_point xs n p)) p)
      place_found f = let i = partition_point xs n p in rw (segment_lo i, segment_hi i (partition_le xs n p)) (place_holds xs n up p f)

      -- a position that the segment at a place holds has that place
      same_place : (i : ℕ) → i ≤ n → T (contains_of (segment_at xs ys es steps n i) p) → partition_point xs n p ≡ i
      same_place i h holds = holds_place xs n up p i h (rw (segment_lo i, segment_hi i h) at holds)

-- ---- of a search

pub found_holds : OfAscending SegmentHolds
found_holds xs ys es steps n up x f = go (ℕ_discrete n 0)
  where
    go : Dec (n ≡ 0) → T (contains_of (drawn_segment xs ys es steps n x) x)
    go (yes none) = rw (no_points xs ys es steps n x none) (everywhere x f)
    go (no some) = rw (at_place xs ys es steps n x (partition_point xs n x) some refl) (place_found xs ys es steps n some up x f)

pub kept_segment : OfAscending SegmentKept
kept_segment xs ys es steps n up q p holds = go (ℕ_discrete n 0)
  where
    go : Dec (n ≡ 0) → drawn_segment xs ys es steps n q ≡ drawn_segment xs ys es steps n p
    go (yes none) = no_points xs ys es steps n q none ∙ sym (no_points xs ys es steps n p none)
    go (no some) =
        let i = partition_point xs n q in
        let e = at_place xs ys es steps n q i some refl in
        e
        ∙ sym (at_place xs ys es steps n p i some (sym (same_place xs ys es steps n some up p i (partition_le xs n q) (subst (λ (s : Segment). T (contains_of s p)) e holds))))

pub empty_holds_nothing : SegmentVoid
empty_holds_nothing x h = lt_not_le x f32_0 (and_r (le f32_0 x) (lt x f32_0) h) (and_l (le f32_0 x) (lt x f32_0) h)
