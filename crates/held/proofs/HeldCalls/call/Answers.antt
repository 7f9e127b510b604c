-- `call` meets its contract. Assumes nothing.
use Rattle.std.proofs.Common.{refl}
use Rattle.run_calls.proofs.Turning.{answered}
use Rattle.held.specs.Held.{held, state_of, Valid}
use Rattle.held.proofs.HeldCalls.call.Goals as goal

pub returns-in_ok-player-in-0 : goal.returns-in_ok-player-in-0
returns-in_ok-player-in-0 c =
    let asked = c.in_ok-player-in-0 in
    rw (c.turn.ensures, c.in-0.is)
    (answered held state_of Valid c.args.run.now c.args.from.player (record { at = asked.at; player = asked.player }) asked.ensures refl refl tt c.say_number.ensures)
