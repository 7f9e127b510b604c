-- Values that are read one after the other, by the turns of a loop. Assumes nothing.
--     kept_more      one value more, of which an array has the first 64
--     kept_past      one value more, past the array
--     kept_stopped   a fault before the last value
use Prim.Native.Nat.{ℕ, zero, suc, ◌+◌, ◌≤◌, ◌<◌}
use mathlib.Core.Path.{◌≡◌}
use mathlib.Core.List.{List}
use mathlib.Core.Logic.{inl, inr}
use native.Mathlib.Nat.{eq-or-lt_of_le}
use native.Mathlib.Numerals.{add-one}
use native.Mathlib.Omega.{arith}
use lib.ListN.{length, set}
use lib.Seq.{set_out}
use Rattle.fields.specs.Parser.{read, fault, after, Parser}
use Rattle.runs.specs.Curves.{kept}

module _ {A : Type 0} (blank : A) (p : Parser A) (run : List ℕ) (at : ℕ) (l : List A) (i next : ℕ) (r : kept blank p i run at ≡ read l next) where
  pub kept_more : (a : A) (end : ℕ) → read a end ≡ p run next → kept blank p (i + 1) run at ≡ read (set l i a) end
  unfolding kept after
  kept_more a end q = rw (add-one, r, ← q)

  pub kept_past : (a : A) (end : ℕ) → read a end ≡ p run next → length l ≤ i → kept blank p (i + 1) run at ≡ read l end
  kept_past a end q h = rw (set_out l i a h) at (kept_more a end q)

  pub kept_stopped : (n : ℕ) → fault n ≡ p run next → (count : ℕ) → i < count → fault n ≡ kept blank p count run at
  unfolding kept after
  kept_stopped n q zero h = absurd (omega arith)
  kept_stopped n q (suc count) h = elim (eq-or-lt_of_le h) [
    | inl e ↦ let same : count ≡ i = omega arith in rw (same, r, ← q)
    | inr more ↦ rw (← kept_stopped n q count (omega arith))
  ]
