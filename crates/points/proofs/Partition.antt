-- What `partition_point` says of ascending numbers: it parts those at or before x from those after it, as Rust's `partition_point` does. Assumes nothing.
use mathlib.Core.Path.{◌≡◌, refl, sym, ap, ◌∙◌}
use mathlib.Core.Bool.{Bool, true, false, not}
use mathlib.Core.List.{List}
use Prim.Native.Nat.{ℕ, zero, suc, ◌≤◌, ◌<◌}
use native.Mathlib.Nat.{le_refl, le_of_suc-le-suc, suc_inj}
use native.Mathlib.Omega.{arith}
use lib.Dec.{T, not_T}
use lib.ListN.{length, take, get_or}
use Rattle.std.proofs.lemmas.List.{get_or-take, length-take-le}
use lib.Ieee.{Float, nan, le, lt}
use Rattle.floatlaws.proofs.NoNan.{Number}
use Rattle.floatlaws.proofs.Tests.{yes_so, not_so}
use Rattle.floatlaws.proofs.Order.{le_left, le_trans_at, lt_not_le, not_le→lt, lt_of_lt_of_le_at}
use Rattle.points.specs.Arrays.{Ascends, partition_point}
use Rattle.points.specs.Laws.{PartitionRule}
use Rattle.listlaws.proofs.LastWhere.{last_le, last_at, last_after, last_unique, last_same}

abbrev before : List Float → Float → ℕ → Bool
before xs x k = le (get_or xs k nan) x

-- ---- looked for from the last place down

module _ (xs : List Float) (x : Float) where
  pub partition_found : (n i : ℕ) → i < n → le (get_or xs i nan) x ≡ true → ((k : ℕ) → i < k → k < n → le (get_or xs k nan) x ≡ false) → partition_point xs n x ≡ suc i
  unfolding partition_point
  partition_found n i h a b =
      last_unique (before xs x) n (suc i) h
      (λ (k : ℕ) (e : suc i ≡ suc k). yes_so (ap (before xs x) (suc_inj (sym e)) ∙ a))
      (λ (k : ℕ) (p : suc i ≤ k) (q : k < n). not_so (b k p q))

  pub partition_none : (n : ℕ) → ((k : ℕ) → k < n → le (get_or xs k nan) x ≡ false) → partition_point xs n x ≡ 0
  unfolding partition_point
  partition_none n b =
      last_unique (before xs x) n 0 (omega arith)
      (λ (k : ℕ) (e : 0 ≡ suc k). let z : ⊥ = omega arith in absurd z)
      (λ (k : ℕ) (p : 0 ≤ k) (q : k < n). not_so (b k q))

-- the same of the first n of a longer list
pub partition_take : (xs : List Float) (n : ℕ) (x : Float) → n ≤ length xs → partition_point (take n xs) (length (take n xs)) x ≡ partition_point xs n x
unfolding partition_point
partition_take xs n x h = rw (length-take-le n xs h) (last_same (before (take n xs) x) (before xs x) n (λ (k : ℕ) (l : k < n). ap (λ (y : Float). le y x) (get_or-take n xs k nan l)))

-- ---- the numbers on either side

module _ (xs : List Float) (n : ℕ) (x : Float) where
  pub partition_le : partition_point xs n x ≤ n
  unfolding partition_point
  partition_le = last_le (before xs x) n

  -- the last one before the place is at or before x
  pub partition_at : (k : ℕ) → partition_point xs n x ≡ suc k → T (le (get_or xs k nan) x)
  unfolding partition_point
  partition_at k e = last_at (before xs x) n k e

  -- from the place on none is
  pub partition_after : (k : ℕ) → partition_point xs n x ≤ k → k < n → T (not (le (get_or xs k nan) x))
  unfolding partition_point
  partition_after k h l = last_after (before xs x) n k h l

  module _ (up : Ascends xs n) where
    -- up to the place all are
    partition_before : (k : ℕ) → k < partition_point xs n x → T (le (get_or xs k nan) x)
    partition_before k h = go (partition_point xs n x) refl h
      where
        go : (i : ℕ) → partition_point xs n x ≡ i → k < i → T (le (get_or xs k nan) x)
        go zero e l = let z : ⊥ = omega arith in absurd z
        go (suc m) e l = le_trans_at (get_or xs k nan) (get_or xs m nan) x (up k m (le_of_suc-le-suc l) (omega (arith, partition_le))) (partition_at m e)

    -- where x lies between two neighbours, that is its place
    pub partition_between : (i : ℕ) → i ≤ n → ((k : ℕ) → i ≡ suc k → T (le (get_or xs k nan) x)) → (i < n → T (lt x (get_or xs i nan))) → partition_point xs n x ≡ i
    unfolding partition_point
    partition_between i h a b =
        last_unique (before xs x) n i h a
        (λ (k : ℕ) (p : i ≤ k) (q : k < n).
        not_T (le (get_or xs k nan) x) (lt_not_le x (get_or xs k nan) (lt_of_lt_of_le_at x (get_or xs i nan) (get_or xs k nan) (b (omega arith)) (up i k p q))))

    -- ---- x against the first

    module _ (some : 0 < n) where
      pub partition_first : Number x → partition_point xs n x ≡ 0 → T (lt x (get_or xs 0 nan))
      partition_first number e = not_le→lt (get_or xs 0 nan) x (le_left _ _ (up 0 0 (le_refl 0) some)) number (partition_after 0 (omega arith) some)

      pub partition_later : (k : ℕ) → partition_point xs n x ≡ suc k → T (not (lt x (get_or xs 0 nan)))
      partition_later k e =
          not_T (lt x (get_or xs 0 nan))
          (λ (h : T (lt x (get_or xs 0 nan))).
          lt_not_le x (get_or xs 0 nan) h (le_trans_at (get_or xs 0 nan) (get_or xs k nan) x (up 0 k (omega arith) (omega (arith, partition_le))) (partition_at k e)))

pub partition_rule : PartitionRule
partition_rule xs n x up = record { within = partition_le xs n x; before = partition_before xs n x up; after = partition_after xs n x }
