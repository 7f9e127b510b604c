-- `with_path` meets its contract. Assumes nothing.
use Rattle.item_player.proofs.with_path.Goals as goal

pub returns-in-Ok : goal.returns-in-Ok
returns-in-Ok c =
    let w = rw c.in-Ok.is at c.set_path.ensures in
    (w.state_is, w.valid)

pub returns-in-Err : goal.returns-in-Err
returns-in-Err c =
    let w = rw c.in-Err.is at c.set_path.ensures in
    (w.state_is, w.valid)
