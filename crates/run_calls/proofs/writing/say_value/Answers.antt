-- `say_value` meets its contract. Assumes nothing.
use mathlib.Core.List.{append-nil}
use Rattle.replies.specs.Replies.{listed}
use Rattle.outputs.specs.Numbers.{answer_numbers}
use Rattle.run_calls.proofs.writing.say_value.Goals as goal

pub returns-in-Ok : goal.returns-in-Ok
unfolding listed answer_numbers
returns-in-Ok c = rw c.in-Ok.is (rw append-nil at c.say.ensures)

pub returns-in-Err : goal.returns-in-Err
unfolding answer_numbers
returns-in-Err c = rw (c.in-Err.is, ← c.number.ensures) c.say_number.ensures
