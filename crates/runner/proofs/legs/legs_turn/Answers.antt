-- `legs_turn` meets its contract. Assumes nothing.
use mathlib.Core.Path.{refl}
use Rattle.fields.specs.Parser.{after}
use Rattle.player.specs.Player.{state_of, Valid}
use Rattle.run_calls.proofs.Turning.{answered}
use Rattle.runner.specs.Asked.{legs, legs_call}
use Rattle.runner.specs.Numbers.{numbers, state_after}
use Rattle.runner.specs.Output.{players}
use Rattle.runner.proofs.legs.legs_turn.Goals as goal

pub returns : goal.returns
unfolding legs_call after numbers state_after
returns c =
    answered players state_of Valid c.args.run.now c.args.from.now.player (record { at = c.in_ok-codes.at; player = c.args.from.now.player }) {a = legs c.in_ok-codes.codes}
    (rw (← c.in_ok-codes.ensures)) refl refl c.requires c.measure.ensures
