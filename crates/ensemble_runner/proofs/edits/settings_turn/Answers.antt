-- `settings_turn` meets its contract. Assumes nothing.
use mathlib.Core.Path.{refl}
use Rattle.fields.specs.Parser.{after}
use Rattle.ensemble_runner.specs.Asked.{settings_call}
use Rattle.ensemble_runner.specs.Numbers.{numbers}
use Rattle.ensemble_runner.proofs.Answering.{change_answered}
use Rattle.ensemble_runner.proofs.edits.settings_turn.Goals as goal

pub returns : goal.returns
unfolding settings_call after numbers
returns c = change_answered c.args.run.now c.set_settings-changed.ensures refl (rw (← c.in_ok-codes.ensures, ← c.in_ok-shared.ensures)) c.say_change.ensures.changed c.say_change.ensures.says
