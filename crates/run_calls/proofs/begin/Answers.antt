-- `begin` meets its contract. Assumes nothing.
use Rattle.run_calls.proofs.Turning.{begins_malformed}
use Rattle.run_calls.proofs.begin.Goals as goal

pub returns-in-Err : goal.returns-in-Err
returns-in-Err g c =
    let m = g.C.CallsInPlace in
    let (ill, same) = c.in-Err.ensures in
    begins_malformed m.calling m.state_of m.Valid c.args.run.now ill (rw same at c.malformed.ensures)
