-- The numbers of a block. Assumes nothing.
use Prim.Native.Nat.{ℕ, suc, ◌+◌}
use mathlib.Core.Path.{◌≡◌, refl, sym, ap, ◌∙◌}
use mathlib.Core.Bool.{Bool, true, false, cond}
use mathlib.Core.List.{List, [], ◌∷◌, map}
use native.Mathlib.Omega.{arith}
use borrow.Author.Tests.{ne_eqb}
use lib.Dec.{eqb}
use lib.ListN.{length, take, length-map, length-replicate}
use lib.Seq.{take_at}
use lib.Ieee.{Float}
use Rattle.std.specs.Prelude.{Option, Some, None, Result, Ok, Err}
use Rattle.listlaws.specs.Tables.{padded}
use Rattle.codes.specs.declared.TransportCodes.{TransportCodes}
use Rattle.settings.specs.Codes.{transport_at}
use Rattle.settings.specs.declared.record.Transport.{Transport}
use Rattle.questions.specs.declared.question.Question.{Question}
use Rattle.questions.specs.Answers.{question_number}
use Rattle.questions.proofs.Numbers.{number_not_zero}
use Rattle.calls.specs.Calls.{by_transport}
use Rattle.replies.specs.Replies.{listed}
use Rattle.outputs.specs.Numbers.{flag_of}
use Rattle.ensemble_calls.specs.Ensembles.{EnsembleState}
use Rattle.ensemble_calls.specs.Blocks.{voice_finished}
use Rattle.ensemble_calls.specs.Calls.{block, accepts, buffer, finished_by, none_finished}
use Rattle.ensemble_player.specs.declared.Ensemble.{Ensemble}
use Rattle.ensemble_player.specs.declared.Played.{Played}
use Rattle.ensemble_player.specs.Ensembles.{state_of, Valid}
use Rattle.ensemble_player.specs.Plays.{Plays}
use Rattle.ensemble_player.proofs.Voices.{count_is, take_map}
use Rattle.ensemble_runner.specs.Numbers.{block_numbers, numbers}

-- ---- one finished a voice

module _ (e : EnsembleState) (t : TransportCodes) (frames : ℕ) (x y : List Float) where
  by_transport_lem : (c : Option Transport) → length (by_transport (none_finished e) c λ t. map (voice_finished e t frames) e.voices) ≡ length e.voices
  by_transport_lem (Some t) = length-map e.voices _
  by_transport_lem None = length-replicate _ _

  by_accepted : (b : Bool)
      → length (cond b (by_transport (none_finished e) (transport_at t) λ t. map (voice_finished e t frames) e.voices) (none_finished e)) ≡ length e.voices
  by_accepted true = by_transport_lem (transport_at t)
  by_accepted false = length-replicate _ _

  finished_long : length (finished_by e t frames x y) ≡ length e.voices
  unfolding finished_by
  finished_long = by_accepted (accepts e (block t frames x y))

-- ---- the numbers

flags_are : (count : ℕ) (f : List Bool) → length f ≡ count → 0 ∷ map flag_of f ≡ take (1 + count) (0 ∷ map flag_of (padded 16 false f))
flags_are count f long =
    let one : 1 + count ≡ suc count = omega arith in
    rw one (ap (λ l. 0 ∷ l) (sym (take_map flag_of count (padded 16 false f) ∙ ap (map flag_of) (take_at f _ count long))))

module _ {e : Ensemble} {t : TransportCodes} {frames : ℕ} {x y : List Float} {x' y' : List Float} where
  pub played_numbers : Valid e → {r : Played} → Plays e t frames x y (Ok r) x' y'
      → numbers (state_of e) (block t frames x y) ≡ listed (take (1 + e.count) (0 ∷ map flag_of r.finished)) x' y'
  unfolding numbers block_numbers
  played_numbers valid w =
      let f = finished_by (state_of e) t frames x y in
      let flags = flags_are e.count f (finished_long (state_of e) t frames x y ∙ count_is e valid) in
      rw (w.x_is, w.y_is, ← w.answer_is, w.finished_is)
      (ap (λ l. listed l (buffer (state_of e) t frames x y (λ v. v.x) x) (buffer (state_of e) t frames x y (λ v. v.y) y)) flags)

  pub refused_numbers : {q : Question} → Plays e t frames x y (Err q) x' y'
      → numbers (state_of e) (block t frames x y) ≡ listed (question_number q ∷ []) x' y'
  unfolding numbers block_numbers
  refused_numbers {q} w =
      let no : eqb (question_number q) 0 ≡ false = ne_eqb _ 0 (number_not_zero q) in
      rw (w.x_is, w.y_is, ← w.answer_is, no)
