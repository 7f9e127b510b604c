-- `phase` meets its contract. Assumes nothing.
use Rattle.std.proofs.Common.{◌∙◌, arith}
use Rattle.questions.proofs.Results.{passed_on}
use Rattle.ensemble_player.proofs.Readings.{phase_refused, below, shared_phase, own_phase}
use Rattle.ensemble_player.proofs.phases.phase.Goals as goal

pub returns-in_err-voice_phase_answer : goal.returns-in_err-voice_phase_answer
returns-in_err-voice_phase_answer c =
    rw (passed_on _ c.from_residual.ensures) (phase_refused _ c.requires _ _ _ c.in_err-voice_phase_answer.ensures)

pub returns-then-e : goal.returns-then-e
returns-then-e c =
    c.phase.ensures ∙ rw c.server_of-server.ensures (shared_phase _ c.requires _ _ c.in_ok-voice_phase_answer.ensures c.if-e.true)

pub offset_bounds-e-v : goal.offset_bounds-e-v
offset_bounds-e-v c =
    record { fits = omega (arith, below c.args.e c.requires c.args.v c.args.t c.in_ok-voice_phase_answer.ensures, c.requires.few) }

pub bounds-e-v : goal.bounds-e-v
bounds-e-v c =
    omega (arith, below c.args.e c.requires c.args.v c.args.t c.in_ok-voice_phase_answer.ensures, c.requires.few, c.requires.listed)

pub returns : goal.returns
returns c =
    c.phase-2.ensures
    ∙ rw (c.voice_player.ensures, c.server_of-server.ensures) (own_phase _ c.requires _ _ c.in_ok-voice_phase_answer.ensures c.if-e.false _)
