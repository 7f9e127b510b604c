-- What a call says. Assumes nothing.
use Prim.Native.Nat.{ℕ}
use mathlib.Core.Path.{◌≡◌, refl, sym, ap, ◌∙◌, subst}
use mathlib.Core.Bool.{Bool, true, false, cond}
use mathlib.Core.List.{List, [], ◌∷◌}
use Rattle.std.specs.Prelude.{Some, Result, Ok, Err}
use Rattle.std.specs.Result.{result_unwrap_or}
use Rattle.codes.specs.declared.TransportCodes.{TransportCodes}
use Rattle.questions.specs.declared.question.Question.{Question}
use Rattle.questions.specs.Answers.{answer_of}
use Rattle.ensemble_calls.specs.Ensembles.{EnsembleState}
use Rattle.ensemble_calls.specs.Calls.{Call, answer, accepts, accepted, step}
use Rattle.ensemble_calls.specs.Calls as Calls
use Rattle.fields.specs.Parser.{Parsed, read}
use Rattle.ensemble_player.specs.declared.Ensemble.{Ensemble}
use Rattle.ensemble_player.specs.Ensembles.{state_of, Valid}
use Rattle.ensemble_player.specs.Promises.{ensemble_after, Changes}
use Rattle.run_calls.specs.declared.Next.{Next}
use Rattle.run_calls.specs.declared.Went.{Went}
use Rattle.run_calls.specs.Turns.{turn_of, Says, Turns, given_of}
use Rattle.run_calls.proofs.Turning.{answered}
use Rattle.ensemble_runner.specs.Numbers.{numbers}
use Rattle.ensemble_runner.specs.Output.{ensembles}

-- a call that sets something or asks for a restart
after_is : (e : Ensemble) (r : Result Ensemble Question) → ensemble_after e r ≡ result_unwrap_or r e
after_is e (Ok f) = refl
after_is e (Err q) = refl

pub change_answered : (run : List ℕ) {e : Ensemble} {c : Call} {r : Result Ensemble Question} → Changes e c r
    → numbers (state_of e) c ≡ answer (state_of e) c ∷ [] → {v : Parsed Call} {at : ℕ} → read c at ≡ v
    → {n : Next Ensemble} → n ≡ record { at = at; player = result_unwrap_or r e }
    → {x : List ℕ} {place : ℕ} {went : Went} {y : List ℕ} → Says x place (answer_of r ∷ []) went y
    → Turns ensembles state_of Valid run (given_of ensembles state_of e run v) x place (turn_of went (Some n)) y
change_answered run {e} {c} {r} w numbers_are {at = at} is next s =
    rw next
    (answered ensembles state_of Valid run e (record { at = at; player = result_unwrap_or r e }) is
    (numbers_are ∙ ap (λ n. n ∷ []) (sym w.answer_is))
    (sym w.state_is ∙ ap state_of (after_is e r))
    (subst Valid (after_is e r) w.valid)
    s)

-- where the phase is read the ensemble stays
pub phase_stays : (e : EnsembleState) (v : ℕ) (t : TransportCodes) → step e (Calls.phase v t) ≡ e
unfolding step accepted
phase_stays e v t = by_answer (accepts e (Calls.phase v t))
  where
    by_answer : (b : Bool) → cond b e e ≡ e
    by_answer true = refl
    by_answer false = refl
