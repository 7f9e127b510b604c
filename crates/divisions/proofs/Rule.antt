-- The table is document 01's list: one test over its entries, computed, and each entry's rule from it. Assumes nothing.
use Prim.Native.Nat.{ℕ, ◌-◌, ◌^◌, ◌≤◌, ◌<◌, min}
use mathlib.Core.Path.{◌≡◌, ap, ◌∙◌}
use mathlib.Core.Bool.{Bool, false, cond}
use native.Mathlib.Omega.{arith}
use lib.Dec.{T, leb}
use lib.Ieee.{nan, round}
use borrow.Author.Tests.{le-leb, lt-leb}
use Rattle.floatlaws.specs.Numbers.{f64}
use Rattle.floatlaws.proofs.Same.{same_number, same_number_lem}
use Rattle.listlaws.proofs.Everywhere.{everywhere, everywhere_at}
use Rattle.divisions.specs.declared.NoteLength.{NoteLength}
use Rattle.divisions.specs.declared.NoteLength.TheVariants.{Bars, Beats}
use Rattle.divisions.specs.Lengths.{note_lengths, note_length, LengthsRule}

-- ---- what a test of the whole table shows of each entry

unfoldable pub same_length : NoteLength → NoteLength → Bool
same_length (Bars m) (Bars n) = same_number m n
same_length (Beats m) (Beats n) = same_number m n
same_length (Bars m) (Beats n) = false
same_length (Beats m) (Bars n) = false

same_length_lem : (m n : NoteLength) → T (same_length m n) → m ≡ n
unfolding same_length
same_length_lem (Bars m) (Bars n) h = ap Bars (same_number_lem m n h)
same_length_lem (Beats m) (Beats n) h = ap Beats (same_number_lem m n h)
same_length_lem (Bars m) (Beats n) h = absurd h
same_length_lem (Beats m) (Bars n) h = absurd h

pub past_the_last : (k : ℕ) → 14 ≤ k → note_length k ≡ note_length 14
unfolding note_length
past_the_last k h = let e : min k 14 ≡ 14 = omega arith in rw e

module _ (f : ℕ → NoteLength) where
  -- entry 0 is f 0, entry 1 is f 1, ..
  abbrev pub entries_are : Bool
  entries_are = everywhere (λ k n. same_length n (f k)) 0 note_lengths

  pub entry_is : T entries_are → (k : ℕ) → k < 15 → note_length k ≡ f k
  unfolding note_length
  entry_is t k h =
      let e : min k 14 ≡ k = omega arith in
      rw e (same_length_lem _ _ (everywhere_at (λ k n. same_length n (f k)) (Bars nan) note_lengths t k (unfold note_lengths in h)))

-- ---- document 01's list

abbrev ruled : ℕ → NoteLength
ruled k = cond (leb k 5) (Bars (f64 (2 ^ (5 - k)) 1)) (cond (leb k 13) (Beats (f64 2 (2 ^ (k - 6)))) (Beats (f64 1 128)))

tested : T (entries_are ruled)
unfolding same_length same_number note_lengths round
tested = tt

pub lengths_rule : LengthsRule
lengths_rule =
    record {
      bars = λ k h. entry_is ruled tested k (omega arith) ∙ rw (le-leb k 5 h);
      beats = λ k l h. entry_is ruled tested k (omega arith) ∙ rw (lt-leb k 5 (omega arith), le-leb k 13 h);
      last = λ k h. past_the_last k h ∙ entry_is ruled tested 14 (omega arith);
    }
