-- `bus_turn` meets its contract. Assumes nothing.
use mathlib.Core.Path.{refl}
use Rattle.fields.specs.Parser.{after}
use Rattle.runner.specs.Asked.{bus_call}
use Rattle.runner.specs.Numbers.{call_numbers}
use Rattle.runner.proofs.Answering.{edit_answered}
use Rattle.runner.proofs.edits.bus_turn.Goals as goal

pub returns : goal.returns
unfolding bus_call after call_numbers
returns c = edit_answered c.args.run.now c.set_bus-changed.ensures refl (rw (← c.in_ok-bus.ensures, ← c.in_ok-value.ensures)) c.say_change.ensures.changed c.say_change.ensures.says
