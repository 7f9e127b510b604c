-- On ascending times from 0, and at a t that is no NaN, `path_segment` is what the Rust text gives. Assumes nothing.
use mathlib.Core.Path.{◌≡◌, refl, ◌∙◌, subst}
use mathlib.Core.Bool.{Bool}
use mathlib.Core.List.{List}
use Prim.Native.Nat.{ℕ, zero, suc, ◌≤◌}
use native.Mathlib.Nat.{zero-lt-suc}
use native.Mathlib.Omega.{arith}
use native.Mathlib.Decide.{ℕ_discrete}
use lib.Dec.{T}
use lib.ListN.{get_or}
use lib.Ieee.{Float, nan, le, lt}
use lib.Ieee.Bits.{is_true, is_false}
use borrow.Author.Tests.{eq-eqb, ne_eqb, lt-ltb, le-ltb}
use Rattle.floatlaws.specs.Numbers.{f32_0}
use Rattle.floatlaws.proofs.NoNan.{Number}
use Rattle.points.specs.Arrays.{Ascends, partition_point}
use Rattle.listlaws.proofs.LastWhere.{back, later}
use Rattle.points.proofs.Partition.{partition_le, partition_at, partition_after, partition_first, partition_later}
use Rattle.path_segments.specs.Times.{segments_of}
use Rattle.path_segments.specs.Segments.{path_segment_at, path_segment, rust_path_segment}
use Rattle.path_segments.specs.Laws.{OfTimesFrom0, PathRust}
use Rattle.path_segments.proofs.Cases.{no_points, no_segment, at_place}

module _ (xs ys bends times : List Float) (len : ℕ) (closed : Bool) where
  abbrev n : ℕ
  n = segments_of len closed

  module _ (up : Ascends times (suc n)) (start : get_or times 0 nan ≡ f32_0) (t : Float) (number : Number t) where
    module _ (some : len ≡ 0 → ⊥) (legs : n ≡ 0 → ⊥) where
      at_some : (i : ℕ) → partition_point times (suc n) t ≡ i → path_segment_at xs ys bends times len closed n i ≡ rust_path_segment xs ys bends times len closed t
      unfolding rust_path_segment path_segment_at
      at_some zero e =
          rw (ne_eqb len 0 some, ne_eqb n 0 legs, ← start, is_true (lt t (get_or times 0 nan)) (partition_first times (suc n) t up (zero-lt-suc n) number e))
      at_some (suc k) e = go (ℕ_discrete k n)
        where
          go : Dec (k ≡ n) → path_segment_at xs ys bends times len closed n (suc k) ≡ rust_path_segment xs ys bends times len closed t
          go (yes last) =
              rw (
                later k,
                lt-ltb n (suc k) (omega arith),
                ne_eqb len 0 some,
                ne_eqb n 0 legs,
                ← start,
                is_false (lt t (get_or times 0 nan)) (partition_later times (suc n) t up (zero-lt-suc n) k e),
                is_true (le (get_or times n nan) t) (subst (λ (m : ℕ). T (le (get_or times m nan) t)) last (partition_at times (suc n) t k e)),
              )
          go (no more) =
              let room : suc k ≤ suc n = subst (λ (i : ℕ). i ≤ suc n) e (partition_le times (suc n) t) in
              rw (
                later k,
                le-ltb n (suc k) (omega arith),
                ne_eqb len 0 some,
                ne_eqb n 0 legs,
                ← start,
                is_false (lt t (get_or times 0 nan)) (partition_later times (suc n) t up (zero-lt-suc n) k e),
                is_false (le (get_or times n nan) t) (partition_after times (suc n) t n (omega arith) (omega arith)),
                e,
                back k,
              )

pub rust_path : OfTimesFrom0 PathRust
unfolding rust_path_segment
rust_path xs ys bends times len closed up start t number = go (ℕ_discrete len 0) (ℕ_discrete (segments_of len closed) 0)
  where
    go : Dec (len ≡ 0) → Dec (segments_of len closed ≡ 0) → path_segment xs ys bends times len closed t ≡ rust_path_segment xs ys bends times len closed t
    go (yes none) legs = no_points xs ys bends times len closed t none ∙ rw (eq-eqb len 0 none)
    go (no some) (yes none) = no_segment xs ys bends times len closed t (segments_of len closed) some refl none ∙ rw (ne_eqb len 0 some, eq-eqb (segments_of len closed) 0 none)
    go (no some) (no legs) =
        let n = segments_of len closed in
        at_place xs ys bends times len closed t n some refl (partition_point times (suc n) t) legs refl
        ∙ at_some xs ys bends times len closed up start t number some legs (partition_point times (suc n) t) refl
