-- `make` meets its contract. Assumes nothing.
use Rattle.std.proofs.Common.{refl}
use Rattle.run_calls.proofs.Turning.{begins_made}
use Rattle.held.specs.Held.{held, state_of, Valid}
use Rattle.held.proofs.HeldCalls.make.Goals as goal

pub returns : goal.returns
returns c =
    let asked = c.in_ok-player in
    rw c.turn.ensures (begins_made held state_of Valid c.args.run.now (record { at = asked.at; player = asked.player }) asked.ensures refl refl tt c.say_number.ensures)
