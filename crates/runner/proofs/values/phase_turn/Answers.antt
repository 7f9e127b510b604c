-- `phase_turn` meets its contract. Assumes nothing.
use mathlib.Core.Path.{sym, ap}
use Rattle.calls.specs.Calls as Calls
use Rattle.fields.specs.Parser.{after}
use Rattle.outputs.specs.Numbers.{answer_numbers}
use Rattle.player.specs.Player.{state_of, Valid}
use Rattle.run_calls.proofs.Turning.{answered}
use Rattle.runner.specs.Asked.{call, phase_call}
use Rattle.runner.specs.Numbers.{numbers, call_numbers, state_after}
use Rattle.runner.specs.Output.{players}
use Rattle.runner.proofs.Answering.{phase_stays}
use Rattle.runner.proofs.values.phase_turn.Goals as goal

pub returns : goal.returns
unfolding phase_call after numbers call_numbers state_after
returns c =
    answered players state_of Valid c.args.run.now c.args.from.now.player (record { at = c.in_ok-codes.at; player = c.args.from.now.player }) {a = call (Calls.phase c.in_ok-codes.codes)}
    (rw (← c.in_ok-codes.ensures)) (ap answer_numbers (sym c.phase-phase.ensures)) (phase_stays _ _) c.requires
    c.say_value.ensures
