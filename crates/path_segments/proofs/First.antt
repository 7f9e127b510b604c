-- Of the first n of more legs, and of more points, times and search are the same: they read none after them. Assumes nothing.
use mathlib.Core.Path.{◌≡◌, refl}
use mathlib.Core.Bool.{Bool, true, false}
use mathlib.Core.List.{List}
use Prim.Native.Nat.{ℕ, zero, suc, ◌-◌, ◌%◌, ◌≤◌, ◌<◌}
use native.Mathlib.Nat.{le_refl, mod-lt}
use native.Mathlib.Omega.{arith}
use native.Mathlib.Decide.{ℕ_discrete, dec_lt}
use lib.ListN.{length, take}
use lib.Ieee.{Float, nan}
use borrow.Author.Tests.{eq-eqb, ne_eqb, lt-ltb, le-ltb}
use Rattle.std.proofs.lemmas.List.{get_or-take, length-take-le}
use Rattle.points.specs.Arrays.{partition_point}
use Rattle.points.proofs.First.{tabulate_same}
use Rattle.path_segments.specs.Times.{sum_to, time_at, times_of, segments_of}
use Rattle.path_segments.specs.Segments.{last_of, leg_segment, path_segment_at, path_segment}
use Rattle.path_segments.proofs.AcceptedPath.{segments_le}
use Rattle.path_segments.specs.Laws.{TimesOfFirst, PathOfFirst}

-- ---- times

module _ (legs : List Float) (n : ℕ) where
  sum_first : (j : ℕ) → j ≤ n → sum_to (take n legs) j ≡ sum_to legs j
  unfolding sum_to
  sum_first zero h = refl
  sum_first (suc j) h = rw (sum_first j (omega arith), get_or-take n legs j nan h)

  time_first : (j : ℕ) → j < suc n → time_at (take n legs) n j ≡ time_at legs n j
  unfolding time_at
  time_first j h = rw (sum_first j (omega arith), sum_first n (le_refl n))

pub times_first : TimesOfFirst
unfolding times_of
times_first legs n h = rw (length-take-le n legs h, tabulate_same (time_at (take n legs) n) (time_at legs n) (suc n) (time_first legs n))

-- ---- a search

module _ (xs ys bends times : List Float) (n : ℕ) (closed : Bool) (some : n ≡ 0 → ⊥) where
  last_below : (b : Bool) → last_of n b < n
  unfolding last_of
  last_below true = omega arith
  last_below false = omega arith

  leg_first : (i : ℕ) → i ≤ n → leg_segment (take n xs) ys bends times n i ≡ leg_segment xs ys bends times n i
  unfolding leg_segment
  leg_first i h = rw (get_or-take n xs (i - 1) nan (omega arith), get_or-take n xs (i % n) nan (mod-lt i (omega arith)))

  at_first : (m i : ℕ) → m ≤ n → path_segment_at (take n xs) ys bends times n closed m i ≡ path_segment_at xs ys bends times n closed m i
  unfolding path_segment_at
  at_first m i h = go (dec_lt m i)
    where
      go : Dec (m < i) → path_segment_at (take n xs) ys bends times n closed m i ≡ path_segment_at xs ys bends times n closed m i
      go (yes l) = rw (lt-ltb m i l, get_or-take n xs 0 nan (omega arith), get_or-take n xs (last_of n closed) nan (last_below closed))
      go (no l) = rw (le-ltb m i (omega arith), get_or-take n xs 0 nan (omega arith), leg_first i (omega arith))

pub path_first : PathOfFirst
unfolding path_segment
path_first xs ys bends times n closed t h = go (ℕ_discrete n 0)
  where
    go : Dec (n ≡ 0) → path_segment (take n xs) ys bends times (length (take n xs)) closed t ≡ path_segment xs ys bends times n closed t
    go (yes none) = rw (length-take-le n xs h, eq-eqb n 0 none)
    go (no some) =
        let m = segments_of n closed in
        rw (
          length-take-le n xs h,
          ne_eqb n 0 some,
          get_or-take n xs 0 nan (omega arith),
          at_first xs ys bends times n closed some m (partition_point times (suc m) t) (segments_le n closed),
        )
