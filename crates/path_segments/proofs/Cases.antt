-- The cases of `path_segment` and of `path_segment_at`. Assumes nothing.
use mathlib.Core.Path.{◌≡◌}
use mathlib.Core.Bool.{Bool, true, false}
use mathlib.Core.List.{List}
use Prim.Native.Nat.{ℕ, suc, ◌≤◌, ◌<◌}
use lib.ListN.{get_or}
use lib.Ieee.{Float, nan, inf}
use borrow.Author.Tests.{eq-eqb, ne_eqb, lt-ltb, le-ltb}
use Rattle.floatlaws.specs.Numbers.{f32_0}
use Rattle.points.specs.Arrays.{partition_point}
use Rattle.path_segments.specs.Times.{segments_of}
use Rattle.path_segments.specs.Segments.{path_hold, last_of, leg_segment, path_segment_at, path_segment}

module _ (xs ys bends times : List Float) (len : ℕ) (closed : Bool) where
  module _ (t : Float) where
    pub no_points : len ≡ 0 → path_segment xs ys bends times len closed t ≡ path_hold (inf true) (inf false) f32_0 f32_0
    unfolding path_segment
    no_points h = rw (eq-eqb len 0 h)

    module _ (n : ℕ) (some : len ≡ 0 → ⊥) (count : n ≡ segments_of len closed) where
      pub no_segment : n ≡ 0 → path_segment xs ys bends times len closed t ≡ path_hold (inf true) (inf false) (get_or xs 0 nan) (get_or ys 0 nan)
      unfolding path_segment
      no_segment h = rw (ne_eqb len 0 some, ← count, eq-eqb n 0 h)

      pub at_place : (i : ℕ) → (n ≡ 0 → ⊥) → i ≡ partition_point times (suc n) t → path_segment xs ys bends times len closed t ≡ path_segment_at xs ys bends times len closed n i
      unfolding path_segment
      at_place i legs found = rw (ne_eqb len 0 some, ← count, ne_eqb n 0 legs, found)

  module _ (n i : ℕ) where
    pub before_first : i ≡ 0 → path_segment_at xs ys bends times len closed n i ≡ path_hold (inf true) (get_or times 0 nan) (get_or xs 0 nan) (get_or ys 0 nan)
    unfolding path_segment_at
    before_first h = rw (eq-eqb i 0 h)

    module _ (after : i ≡ 0 → ⊥) where
      pub after_last : n < i → path_segment_at xs ys bends times len closed n i ≡ path_hold (get_or times n nan) (inf false) (get_or xs (last_of len closed) nan) (get_or ys (last_of len closed) nan)
      unfolding path_segment_at
      after_last h = rw (ne_eqb i 0 after, lt-ltb n i h)

      pub in_leg : i ≤ n → path_segment_at xs ys bends times len closed n i ≡ leg_segment xs ys bends times len i
      unfolding path_segment_at
      in_leg h = rw (ne_eqb i 0 after, le-ltb n i h)
