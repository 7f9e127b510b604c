-- `open_turn` meets its contract. Assumes nothing.
use Rattle.turns.proofs.One.{item_fault, item_starts}
use Rattle.turns.proofs.steps.open_turn.Goals as goal

pub returns-in-Ok : goal.returns-in-Ok
returns-in-Ok c =
    rw (item_starts c.args.s.now _ _ c.in-Ok.ensures c.player_of-player.result c.player_of-player.ensures.0 c.transport-transport.ensures)
    c.start_turn.ensures

pub returns-in-Err : goal.returns-in-Err
returns-in-Err c =
    rw (item_fault c.args.s.now _ c.in-Err.ensures, ← c.number.ensures) (c.fault_turn.ensures c.args.t.now)
