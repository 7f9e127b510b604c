-- `shape_at_turn` meets its contract. Assumes nothing.
use mathlib.Core.Path.{refl, sym, ap}
use Rattle.fields.specs.Parser.{after}
use Rattle.outputs.specs.Numbers.{answer_numbers}
use Rattle.player.specs.Player.{state_of, Valid}
use Rattle.run_calls.proofs.Turning.{answered}
use Rattle.runner.specs.Asked.{shape_at, shape_at_call}
use Rattle.runner.specs.Numbers.{numbers, state_after}
use Rattle.runner.specs.Output.{players}
use Rattle.runner.proofs.values.shape_at_turn.Goals as goal

pub returns : goal.returns
unfolding shape_at_call after numbers state_after
returns c =
    answered players state_of Valid c.args.run.now c.args.from.now.player (record { at = c.in_ok-x.at; player = c.args.from.now.player }) {a = shape_at c.in_ok-codes.codes c.in_ok-x.x}
    (rw (← c.in_ok-codes.ensures, ← c.in_ok-x.ensures)) (ap answer_numbers (sym c.evaluate_shape-value.ensures)) refl c.requires
    c.say_value.ensures
