-- `server_for` meets its contract. Assumes nothing.
use Rattle.ensemble_player.proofs.making.server_for.Goals as goal

pub returns-in-Ok : goal.returns-in-Ok
returns-in-Ok c =
    let w = rw c.in-Ok.is at c.make.ensures in
    record { state = w.state_is; valid = w.valid }

pub returns-in-Err : goal.returns-in-Err
returns-in-Err c =
    let w = rw c.in-Err.is at c.make.ensures in
    rw c.default_player.ensures.player (record { state = w.state_is; valid = w.valid })
