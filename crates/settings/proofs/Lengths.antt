-- A division's length is the table's, for every bar: the formula as a length, and one test over the table, computed. Assumes nothing.
use Rattle.std.proofs.Common.{◌≡◌, ℕ, ◌-◌, ◌^◌, ◌<◌, Bool, true, false, cond, T, leb, sym, refl, ap, ◌∙◌, arith}
use native.Mathlib.Decide.{dec_lt}
use lib.Ieee.{Float, of_bits, round, of_int, div}
use borrow.Author.Tests.{lt-leb}
use Rattle.floatlaws.specs.Rounded.{◌×₆₄◌, ◌÷₆₄◌, to_f64}
use Rattle.floatlaws.specs.Numbers.{f64_4, f64_512}
use Rattle.floatlaws.proofs.Same.{same_number}
use Rattle.divisions.specs.declared.NoteLength.{NoteLength}
use Rattle.divisions.specs.declared.NoteLength.TheVariants.{Bars, Beats}
use Rattle.divisions.specs.Lengths.{note_lengths, note_length, in_beats}
use Rattle.divisions.proofs.Rule.{same_length, entries_are, entry_is, past_the_last}
use Rattle.settings.specs.Divisions.{beats_of}
use Rattle.settings.specs.Laws.{BeatsByTable}

abbrev formula : ℕ → NoteLength
formula k = cond (leb k 5) (Bars (to_f64 (2 ^ (5 - k)))) (cond (leb k 13) (Beats (f64_4 ÷₆₄ to_f64 (2 ^ (k - 5)))) (Beats (f64_4 ÷₆₄ f64_512)))

tested : T (entries_are formula)
unfolding same_length same_number note_lengths of_bits round of_int div
tested = tt

chosen : (p q : Bool) (a b c bar : Float) → cond p (a ×₆₄ bar) (cond q b c) ≡ in_beats (cond p (Bars a) (cond q (Beats b) (Beats c))) bar
unfolding in_beats
chosen true q a b c bar = refl
chosen false true a b c bar = refl
chosen false false a b c bar = refl

by_formula : (k : ℕ) (bar : Float) → beats_of (record { 0 = k }) bar ≡ in_beats (formula k) bar
unfolding beats_of
by_formula k bar = chosen (leb k 5) (leb k 13) (to_f64 (2 ^ (5 - k))) (f64_4 ÷₆₄ to_f64 (2 ^ (k - 5))) (f64_4 ÷₆₄ f64_512) bar

tabled : (k : ℕ) → Dec (k < 15) → note_length k ≡ formula k
tabled k (yes h) = entry_is formula tested k h
tabled k (no h) = past_the_last k (omega arith) ∙ entry_is formula tested 14 (omega arith) ∙ rw (lt-leb k 5 (omega arith), lt-leb k 13 (omega arith))

pub beats_by_table : BeatsByTable
beats_by_table d bar = by_formula d.0 bar ∙ ap (λ (n : NoteLength). in_beats n bar) (sym (tabled d.0 (dec_lt d.0 15)))
