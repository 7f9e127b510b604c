-- Reading the phase of a voice. Assumes nothing.
use Rattle.std.specs.Prelude.{ℕ, [], ◌∷◌}
use Rattle.codes.specs.declared.TransportCodes.{TransportCodes}
use Rattle.settings.specs.Codes.{transport_at}
use Rattle.questions.specs.Answers.{Answer, answer_with}
use Rattle.calls.specs.Calls.{by_transport}
use Rattle.ensemble_calls.specs.Ensembles.{EnsembleState}
use Rattle.ensemble_calls.specs.Calls.{phase, answer, voice_phase}

-- the number of the question that refuses it, or 0 and the phase
unfoldable pub voice_phase_answer : EnsembleState → ℕ → TransportCodes → Answer
voice_phase_answer e v c = answer_with (answer e (phase v c)) (by_transport [] (transport_at c) λ t. voice_phase e v t ∷ [])
