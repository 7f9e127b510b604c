-- `number::reader::last_byte` meets its contract. The invariant: the place that is looked for is the same from `i` on as from `at` on.
-- Assumes nothing.
use Prim.Native.Nat.{ℕ, ◌+◌, ◌≤◌, ◌<◌}
use mathlib.Core.Path.{◌≡◌, sym, ◌∙◌}
use mathlib.Core.List.{List}
use native.Mathlib.Nat.{add-zero, suc-add, add-suc}
use native.Mathlib.Numerals.{add-one}
use borrow.Author.Tests.{lt-ltb, le-ltb}
use lib.ListN.{length, drop, get_or}
use lib.Seq.{drop-cons}
use Rattle.number.specs.Read.{leading}
use Rattle.number.proofs.reader.last_byte.Given as goal

-- the place of the first byte below 128 from i on
abbrev pub place : List ℕ → ℕ → ℕ
place s i = i + leading (drop i s)

module _ (s : List ℕ) (i : ℕ) where
  -- it is i, or lies further on
  pub here : i < length s → get_or s i 0 < 128 → i ≡ place s i
  unfolding leading
  here h small = rw (drop-cons s i 0 h, lt-ltb (get_or s i 0) 128 small) (sym (add-zero i))

  pub further : i < length s → 128 ≤ get_or s i 0 → place s (i + 1) ≡ place s i
  unfolding leading
  further h large = rw (drop-cons s i 0 h, le-ltb (get_or s i 0) 128 large, add-one) (suc-add _ _ ∙ sym (add-suc _ _))

abbrev pub invariant-loop-i : goal.invariant-loop-i
invariant-loop-i l = place l.s l.i ≡ place l.s l.at
