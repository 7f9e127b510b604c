-- `phase` meets its contract. Assumes nothing.
use mathlib.Core.Path.{sym, ◌∙◌}
use Rattle.questions.proofs.Facts.{phase_accepted, transport_given}
use Rattle.questions.proofs.Results.{passed_on}
use Rattle.player.proofs.Readings.{phase_refused, phase_at_lem}
use Rattle.player.proofs.phases.phase.Goals as goal

pub returns-in_err-phase_answer : goal.returns-in_err-phase_answer
returns-in_err-phase_answer c = rw (passed_on _ c.from_residual.ensures) (phase_refused _ _ _ c.in_err-phase_answer.ensures)

pub returns-in_err-transport : goal.returns-in_err-transport
returns-in_err-transport c =
    absurd (transport_given _ (phase_accepted _ (sym c.in_ok-phase_answer.ensures)) (sym c.from_codes.ensures ∙ c.in_err-transport.ensures.ok_part))

pub returns : goal.returns
returns c = phase_at_lem _ _ c.in_ok-phase_answer.ensures _ (sym c.from_codes.ensures ∙ c.in_ok-transport.ensures.ok_part) _ c.phase.ensures
