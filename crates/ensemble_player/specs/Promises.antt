-- What each call promises: the answer, the ensemble and both buffers, by the definitions of crate `ensemble_calls`. Assumes nothing.
use Rattle.std.specs.Prelude.{◌≡◌, ℕ, false, Result, IfOk}
use Rattle.std.specs.Result.{result_unwrap_or}
use Rattle.codes.specs.declared.SettingsCodes.{SettingsCodes}
use Rattle.questions.specs.declared.question.Question.{Question}
use Rattle.questions.specs.Answers.{answer_of}
use Rattle.questions.specs.Questions.{first_no}
use Rattle.ensemble_calls.specs.Questions.{make_questions}
use Rattle.ensemble_calls.specs.Calls.{Call, answer, accepts, made, step}
use Rattle.ensemble_player.specs.declared.Ensemble.{Ensemble}
use Rattle.ensemble_player.specs.Ensembles.{state_of, Valid}

-- of a refusal there is no ensemble
pub record Makes (c : SettingsCodes) (shared count seed : ℕ) (r : Result Ensemble Question) : Type 0 where
  pub answer_is : answer_of r ≡ first_no (make_questions c shared count)
  pub state_is : IfOk r (λ e. state_of e ≡ made c shared count seed)
  pub valid : IfOk r Valid

-- the ensemble after a call: where it is refused, the one that it was handed
abbrev pub ensemble_after : Ensemble → Result Ensemble Question → Ensemble
ensemble_after e r = result_unwrap_or r e

-- of a call that sets something or asks for a restart; "player and buffers keep every bit" where it is refused
pub record Changes (e : Ensemble) (c : Call) (r : Result Ensemble Question) : Type 0 where
  pub answer_is : answer_of r ≡ answer (state_of e) c
  pub state_is : state_of (ensemble_after e r) ≡ step (state_of e) c
  pub kept : accepts (state_of e) c ≡ false → ensemble_after e r ≡ e
  pub valid : Valid (ensemble_after e r)
