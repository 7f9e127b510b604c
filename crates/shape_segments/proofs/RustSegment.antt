-- On ascending xs, and at an x that is no NaN, `drawn_segment` is what the Rust text gives. Assumes nothing.
use mathlib.Core.Path.{◌≡◌, refl, ◌∙◌, subst}
use mathlib.Core.Bool.{Bool}
use mathlib.Core.List.{List}
use Prim.Native.Nat.{ℕ, zero, suc, ◌-◌, ◌≤◌, ◌<◌}
use native.Mathlib.Omega.{arith}
use native.Mathlib.Decide.{ℕ_discrete}
use lib.ListN.{get_or}
use lib.Ieee.{Float, nan, le, lt}
use lib.Ieee.Bits.{is_true, is_false}
use borrow.Author.Tests.{eq-eqb, ne_eqb}
use Rattle.floatlaws.proofs.NoNan.{Number}
use Rattle.points.specs.Arrays.{Ascends, partition_point}
use Rattle.shape_segments.specs.Segments.{segment_at, drawn_segment, rust_segment}
use Rattle.shape_segments.specs.Laws.{OfAscending, SegmentRust}
use Rattle.listlaws.proofs.LastWhere.{back, later}
use Rattle.shape_segments.proofs.Cases.{no_points, at_place}
use Rattle.points.proofs.Partition.{partition_le, partition_at, partition_after, partition_first, partition_later}

module _ (xs ys es : List Float) (steps : List Bool) (n : ℕ) (up : Ascends xs n) (x : Float) (number : Number x) where
  module _ (some : n ≡ 0 → ⊥) where
    positive : 0 < n
    positive = omega arith

    at_some : (i : ℕ) → partition_point xs n x ≡ i → segment_at xs ys es steps n i ≡ rust_segment xs ys es steps n x
    unfolding rust_segment segment_at
    at_some zero e = rw (ne_eqb n 0 some, is_true (lt x (get_or xs 0 nan)) (partition_first xs n x up positive number e))
    at_some (suc k) e = go (ℕ_discrete (suc k) n)
      where
        go : Dec (suc k ≡ n) → segment_at xs ys es steps n (suc k) ≡ rust_segment xs ys es steps n x
        go (yes last) =
            let m : n - 1 ≡ k = omega arith in
            rw (
              later k,
              eq-eqb (suc k) n last,
              ne_eqb n 0 some,
              is_false (lt x (get_or xs 0 nan)) (partition_later xs n x up positive k e),
              m,
              is_true (le (get_or xs k nan) x) (partition_at xs n x k e),
              back k,
            )
        go (no more) =
            let room : suc k ≤ n = subst (λ (i : ℕ). i ≤ n) e (partition_le xs n x) in
            rw (
              later k,
              ne_eqb (suc k) n more,
              ne_eqb n 0 some,
              is_false (lt x (get_or xs 0 nan)) (partition_later xs n x up positive k e),
              is_false (le (get_or xs (n - 1) nan) x) (partition_after xs n x (n - 1) (omega arith) (omega arith)),
              e,
              back k,
            )

pub rust_segment_lem : OfAscending SegmentRust
unfolding rust_segment
rust_segment_lem xs ys es steps n up x number = go (ℕ_discrete n 0)
  where
    go : Dec (n ≡ 0) → drawn_segment xs ys es steps n x ≡ rust_segment xs ys es steps n x
    go (yes none) = no_points xs ys es steps n x none ∙ rw (eq-eqb n 0 none)
    go (no some) = at_place xs ys es steps n x (partition_point xs n x) some refl ∙ at_some xs ys es steps n up x number some (partition_point xs n x) refl
