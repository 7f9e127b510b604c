-- `path_turn` meets its contract. Assumes nothing.
use mathlib.Core.Path.{refl}
use Rattle.fields.specs.Parser.{after}
use Rattle.ensemble_runner.specs.Asked.{path_call}
use Rattle.ensemble_runner.specs.Numbers.{numbers}
use Rattle.ensemble_runner.proofs.Answering.{change_answered}
use Rattle.ensemble_runner.proofs.edits.path_turn.Goals as goal

pub returns : goal.returns
unfolding path_call after numbers
returns c = change_answered c.args.run.now c.set_path-changed.ensures refl (rw (← c.in_ok-codes.ensures)) c.say_change.ensures.changed c.say_change.ensures.says
