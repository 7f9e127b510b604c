-- `path_at_turn` meets its contract. Assumes nothing.
use mathlib.Core.Path.{refl, sym, ap}
use mathlib.Core.List.{append-nil}
use Rattle.replies.specs.Replies.{listed}
use Rattle.fields.specs.Parser.{after}
use Rattle.outputs.specs.Numbers.{answer_numbers}
use Rattle.player.specs.Player.{state_of, Valid}
use Rattle.run_calls.proofs.Turning.{answered}
use Rattle.runner.specs.Asked.{path_at, path_at_call}
use Rattle.runner.specs.Numbers.{numbers, state_after}
use Rattle.runner.specs.Output.{players}
use Rattle.runner.proofs.values.path_at_turn.Goals as goal

pub returns-in-Ok : goal.returns-in-Ok
unfolding path_at_call after numbers state_after answer_numbers listed
returns-in-Ok c =
    let value = rw c.in-Ok.is at c.evaluate_path.ensures in
    answered players state_of Valid c.args.run.now c.args.from.now.player (record { at = c.in_ok-t.at; player = c.args.from.now.player }) {a = path_at c.in_ok-codes.codes c.in_ok-t.t}
    (rw (← c.in_ok-codes.ensures, ← c.in_ok-t.ensures)) (ap answer_numbers (sym value)) refl c.requires
    (rw append-nil at c.say.ensures)

pub returns-in-Err : goal.returns-in-Err
unfolding path_at_call after numbers state_after answer_numbers
returns-in-Err c =
    let value = rw c.in-Err.is at c.evaluate_path.ensures in
    answered players state_of Valid c.args.run.now c.args.from.now.player (record { at = c.in_ok-t.at; player = c.args.from.now.player }) {a = path_at c.in_ok-codes.codes c.in_ok-t.t}
    (rw (← c.in_ok-codes.ensures, ← c.in_ok-t.ensures)) (ap answer_numbers (sym value)) refl c.requires
    (rw c.number.ensures at c.say_number.ensures)
