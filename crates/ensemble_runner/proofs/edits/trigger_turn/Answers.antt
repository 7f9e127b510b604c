-- `trigger_turn` meets its contract. Assumes nothing.
use mathlib.Core.Path.{refl}
use Rattle.fields.specs.Parser.{after}
use Rattle.ensemble_runner.specs.Asked.{trigger_call}
use Rattle.ensemble_runner.specs.Numbers.{numbers}
use Rattle.ensemble_runner.proofs.Answering.{change_answered}
use Rattle.ensemble_runner.proofs.edits.trigger_turn.Goals as goal

pub returns : goal.returns
unfolding trigger_call after numbers
returns c = change_answered c.args.run.now c.trigger-changed.ensures refl (rw (← c.in_ok-voice.ensures, ← c.in_ok-frame.ensures)) c.say_change.ensures.changed c.say_change.ensures.says
