-- `shape_turn` meets its contract. Assumes nothing.
use mathlib.Core.Path.{refl}
use Rattle.fields.specs.Parser.{after}
use Rattle.runner.specs.Asked.{shape_call}
use Rattle.runner.specs.Numbers.{call_numbers}
use Rattle.runner.proofs.Answering.{edit_answered}
use Rattle.runner.proofs.edits.shape_turn.Goals as goal

pub returns : goal.returns
unfolding shape_call after call_numbers
returns c = edit_answered c.args.run.now c.set_shape-changed.ensures refl (rw (← c.in_ok-codes.ensures)) c.say_change.ensures.changed c.say_change.ensures.says
