-- `settings_turn` meets its contract. Assumes nothing.
use mathlib.Core.Path.{refl}
use Rattle.fields.specs.Parser.{after}
use Rattle.runner.specs.Asked.{settings_call}
use Rattle.runner.specs.Numbers.{call_numbers}
use Rattle.runner.proofs.Answering.{edit_answered}
use Rattle.runner.proofs.edits.settings_turn.Goals as goal

pub returns : goal.returns
unfolding settings_call after call_numbers
returns c = edit_answered c.args.run.now c.set_settings-changed.ensures refl (rw (← c.in_ok-codes.ensures)) c.say_change.ensures.changed c.say_change.ensures.says
