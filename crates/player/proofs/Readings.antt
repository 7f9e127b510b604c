-- What reading the phase gives, of the equations of what it calls. Assumes nothing.
use Rattle.std.specs.Prelude.{Some, Ok, Err}
use mathlib.Core.Path.{◌≡◌, refl}
use lib.Ieee.{Float}
use Rattle.settings.specs.declared.record.Transport.{Transport}
use Rattle.codes.specs.declared.TransportCodes.{TransportCodes}
use Rattle.settings.specs.Codes.{transport_at}
use Rattle.clock.specs.Ready.{phase_read}
use Rattle.questions.specs.Questions.{first_no, phase_questions}
use Rattle.questions.specs.declared.question.Question.{Question}
use Rattle.questions.specs.Answers.{question_number, result_answer, one_value}
use Rattle.questions.proofs.Results.{refusal_is, success_is, value_told}
use Rattle.calls.specs.State.{State}
use Rattle.calls.specs.Blocks.{phase_at}
use Rattle.calls.specs.Calls.{questions, answer}
use Rattle.player.specs.Readings.{PhaseTold, phase_answer}

module _ (p : State) (c : TransportCodes) where
  pub phase_refused : (q : Question) → question_number q ≡ first_no (phase_questions c) → result_answer one_value (Err q) ≡ phase_answer p c
  unfolding phase_answer answer questions
  phase_refused q asked = refusal_is one_value q _ _ asked

  pub phase_at_lem : 0 ≡ first_no (phase_questions c) → (t : Transport) → transport_at c ≡ Some t
      → (x : Float) → x ≡ phase_read p.lfo.settings p.lfo.clock p.voice.anchor t → result_answer one_value (Ok x) ≡ phase_answer p c
  unfolding phase_answer answer questions phase_at
  phase_at_lem asked t known x is = success_is one_value x _ _ asked (rw (known, is) refl)

pub phase_is_told : PhaseTold
phase_is_told = value_told
