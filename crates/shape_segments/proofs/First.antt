-- Of the first n of more points alone a search finds the same segment: it reads no point after them. Assumes nothing.
use mathlib.Core.Path.{◌≡◌}
use mathlib.Core.Bool.{Bool}
use mathlib.Core.List.{List}
use Prim.Native.Nat.{ℕ, zero, suc, ◌≤◌}
use native.Mathlib.Omega.{arith}
use native.Mathlib.Decide.{ℕ_discrete}
use lib.ListN.{length, take}
use lib.Ieee.{Float, nan}
use borrow.Author.Tests.{eq-eqb, ne_eqb}
use Rattle.std.proofs.lemmas.List.{get_or-take, length-take-le}
use Rattle.listlaws.proofs.LastWhere.{back, later}
use Rattle.points.specs.Arrays.{partition_point}
use Rattle.points.proofs.Partition.{partition_le, partition_take}
use Rattle.shape_segments.specs.Segments.{segment_at, drawn_segment}
use Rattle.shape_segments.specs.Laws.{SegmentOfFirst}

module _ (xs ys es : List Float) (steps : List Bool) (n : ℕ) where
  at_first : (some : n ≡ 0 → ⊥) (i : ℕ) → i ≤ n → segment_at (take n xs) ys es steps n i ≡ segment_at xs ys es steps n i
  unfolding segment_at
  at_first some zero h = rw (get_or-take n xs 0 nan (omega arith))
  at_first some (suc k) h = go (ℕ_discrete (suc k) n)
    where
      go : Dec (suc k ≡ n) → segment_at (take n xs) ys es steps n (suc k) ≡ segment_at xs ys es steps n (suc k)
      go (yes last) = rw (later k, back k, eq-eqb (suc k) n last, get_or-take n xs k nan (omega arith))
      go (no more) = rw (later k, back k, ne_eqb (suc k) n more, get_or-take n xs k nan (omega arith), get_or-take n xs (suc k) nan (omega arith))

pub of_first : SegmentOfFirst
unfolding drawn_segment
of_first xs ys es steps n x h = go (ℕ_discrete n 0)
  where
    go : Dec (n ≡ 0) → drawn_segment (take n xs) ys es steps (length (take n xs)) x ≡ drawn_segment xs ys es steps n x
    go (yes none) = rw (length-take-le n xs h, eq-eqb n 0 none)
    go (no some) =
        let l = length-take-le n xs h in
        let place = rw l at (partition_take xs n x h) in
        rw (l, ne_eqb n 0 some, place) (at_first xs ys es steps n some (partition_point xs n x) (partition_le xs n x))
