-- `phase_turn` meets its contract. Assumes nothing.
use mathlib.Core.Path.{sym, ap}
use Rattle.fields.specs.Parser.{after}
use Rattle.outputs.specs.Numbers.{answer_numbers}
use Rattle.ensemble_calls.specs.Calls as Calls
use Rattle.ensemble_player.specs.Ensembles.{state_of, Valid}
use Rattle.run_calls.proofs.Turning.{answered}
use Rattle.ensemble_runner.specs.Asked.{phase_call}
use Rattle.ensemble_runner.specs.Numbers.{numbers}
use Rattle.ensemble_runner.specs.Output.{ensembles}
use Rattle.ensemble_runner.proofs.Answering.{phase_stays}
use Rattle.ensemble_runner.proofs.values.phase_turn.Goals as goal

pub returns : goal.returns
unfolding phase_call after numbers
returns c =
    answered ensembles state_of Valid c.args.run.now c.args.from.now.player (record { at = c.in_ok-codes.at; player = c.args.from.now.player }) {a = Calls.phase c.in_ok-voice.voice c.in_ok-codes.codes}
    (rw (← c.in_ok-voice.ensures, ← c.in_ok-codes.ensures)) (ap answer_numbers (sym c.phase-phase.ensures)) (phase_stays _ _ _) c.requires c.say_value.ensures
