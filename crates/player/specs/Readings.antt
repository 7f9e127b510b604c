-- Reading the phase. Assumes nothing.
use Rattle.std.specs.Prelude.{[], ◌∷◌}
use Rattle.codes.specs.declared.TransportCodes.{TransportCodes}
use Rattle.settings.specs.Codes.{transport_at}
use Rattle.questions.specs.Answers.{Answer, answer_with, ValueTold}
use Rattle.calls.specs.State.{State}
use Rattle.calls.specs.Blocks.{phase_at}
use Rattle.calls.specs.Calls.{phase, answer, by_transport}

-- the number and the value of a result tell it, so that a promise of them is one of the result
abbrev pub PhaseTold : Type 0
PhaseTold = ValueTold

-- the number of the question that refuses it, or 0 and the phase
unfoldable pub phase_answer : State → TransportCodes → Answer
phase_answer p c = answer_with (answer p (phase c)) (by_transport [] (transport_at c) λ t. phase_at p t ∷ [])
