-- The cases of `drawn_segment` and of `segment_at`. Assumes nothing.
use mathlib.Core.Path.{◌≡◌}
use mathlib.Core.Bool.{Bool, true, false}
use mathlib.Core.List.{List}
use Prim.Native.Nat.{ℕ, ◌-◌}
use lib.ListN.{get_or}
use lib.Ieee.{Float, nan, inf}
use borrow.Author.Tests.{eq-eqb, ne_eqb}
use Rattle.floatlaws.specs.Numbers.{f32_0}
use Rattle.points.specs.Arrays.{partition_point}
use Rattle.shape_segments.specs.Segments.{hold_of, between_of, segment_at, drawn_segment}

module _ (xs ys es : List Float) (steps : List Bool) (n : ℕ) where
  module _ (x : Float) where
    pub no_points : n ≡ 0 → drawn_segment xs ys es steps n x ≡ hold_of (inf true) (inf false) f32_0
    unfolding drawn_segment
    no_points h = rw (eq-eqb n 0 h)

    pub at_place : (i : ℕ) → (n ≡ 0 → ⊥) → i ≡ partition_point xs n x → drawn_segment xs ys es steps n x ≡ segment_at xs ys es steps n i
    unfolding drawn_segment
    at_place i some found = rw (ne_eqb n 0 some, found)

  module _ (i : ℕ) where
    pub before_first : i ≡ 0 → segment_at xs ys es steps n i ≡ hold_of (inf true) (get_or xs 0 nan) (get_or ys 0 nan)
    unfolding segment_at
    before_first h = rw (eq-eqb i 0 h)

    module _ (after : i ≡ 0 → ⊥) where
      pub after_last : i ≡ n → segment_at xs ys es steps n i ≡ hold_of (get_or xs (i - 1) nan) (inf false) (get_or ys (i - 1) nan)
      unfolding segment_at
      after_last h = rw (ne_eqb i 0 after, eq-eqb i n h)

      pub in_step : (i ≡ n → ⊥) → get_or steps (i - 1) false ≡ true → segment_at xs ys es steps n i ≡ hold_of (get_or xs (i - 1) nan) (get_or xs i nan) (get_or ys (i - 1) nan)
      unfolding segment_at
      in_step h s = rw (ne_eqb i 0 after, ne_eqb i n h, s)

      pub in_curve : (i ≡ n → ⊥) → get_or steps (i - 1) false ≡ false → segment_at xs ys es steps n i ≡ between_of (get_or xs (i - 1) nan) (get_or xs i nan) (get_or ys (i - 1) nan) (get_or ys i nan) (get_or es (i - 1) nan)
      unfolding segment_at
      in_curve h s = rw (ne_eqb i 0 after, ne_eqb i n h, s)
