-- The stretches between neighbours of ascending floats: a finite x lies in the stretch at its place, and in no other. Assumes nothing.
use mathlib.Core.Path.{◌≡◌, refl, subst}
use mathlib.Core.Bool.{true, false, ◌&&◌, cond}
use mathlib.Core.List.{List}
use Prim.Native.Nat.{ℕ, zero, suc, ◌≤◌, ◌<◌}
use native.Mathlib.Nat.{le_refl}
use native.Mathlib.Omega.{arith}
use native.Mathlib.Decide.{dec_lt}
use lib.Dec.{T, ltb}
use lib.ListN.{get_or}
use lib.Ieee.{Float, nan, inf, fin, le, lt}
use lib.Ieee.Fits.{and_i, and_l, and_r}
use lib.Ieee.Scale.{finite}
use borrow.Author.Tests.{lt-ltb, le-ltb}
use Rattle.floatlaws.proofs.NoNan.{finite_number}
use Rattle.floatlaws.proofs.Order.{le_left, lowest, not_le→lt}
use Rattle.points.specs.Arrays.{Ascends, partition_point}
use Rattle.points.proofs.Partition.{partition_at, partition_after, partition_between}

-- where the stretch after the first i of xs starts
abbrev pub lower : List Float → ℕ → Float
lower xs zero = inf true
lower xs (suc k) = get_or xs k nan

-- and where it ends, of n
abbrev pub upper : List Float → ℕ → ℕ → Float
upper xs n i = cond (ltb i n) (get_or xs i nan) (inf false)

below_infinity : (x : Float) → T (finite x) → T (lt x (inf false))
unfolding lt
below_infinity nan h = absurd h
below_infinity (inf s) h = absurd h
below_infinity (fin s m e) h = tt

-- from minus to plus infinity
pub everywhere : (x : Float) → T (finite x) → T (le (inf true) x && lt x (inf false))
everywhere x f = and_i (le (inf true) x) (lt x (inf false)) (lowest x (finite_number x f)) (below_infinity x f)

module _ (xs : List Float) (n : ℕ) (up : Ascends xs n) (x : Float) where
  -- x lies in the stretch at its place
  pub place_holds : T (finite x) → T (le (lower xs (partition_point xs n x)) x && lt x (upper xs n (partition_point xs n x)))
  place_holds f = at (partition_point xs n x) refl
    where
      from : (i : ℕ) → partition_point xs n x ≡ i → T (le (lower xs i) x)
      from zero e = lowest x (finite_number x f)
      from (suc k) e = partition_at xs n x k e

      to : (i : ℕ) → partition_point xs n x ≡ i → Dec (i < n) → T (lt x (upper xs n i))
      to i e (yes l) =
          rw (lt-ltb i n l)
          (not_le→lt (get_or xs i nan) x (le_left _ _ (up i i (le_refl i) l)) (finite_number x f) (partition_after xs n x i (omega arith) l))
      to i e (no h) = rw (le-ltb i n (omega arith)) (below_infinity x f)

      at : (i : ℕ) → partition_point xs n x ≡ i → T (le (lower xs i) x && lt x (upper xs n i))
      at i e = and_i (le (lower xs i) x) (lt x (upper xs n i)) (from i e) (to i e (dec_lt i n))

  -- where x lies in a stretch, that is its place
  pub holds_place : (i : ℕ) → i ≤ n → T (le (lower xs i) x && lt x (upper xs n i)) → partition_point xs n x ≡ i
  holds_place i h holds =
      partition_between xs n x up i h
      (λ (k : ℕ) (e : i ≡ suc k). subst (λ (m : ℕ). T (le (lower xs m) x)) e (and_l (le (lower xs i) x) (lt x (upper xs n i)) holds))
      (λ (l : i < n). rw (lt-ltb i n l) at (and_r (le (lower xs i) x) (lt x (upper xs n i)) holds))
