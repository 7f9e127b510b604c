-- `one_call` meets its contract. Assumes nothing.
use Rattle.run_calls.proofs.Turning.{call_malformed}
use Rattle.run_calls.proofs.one_call.Goals as goal

pub returns-in-Err : goal.returns-in-Err
returns-in-Err g c =
    let m = g.C.CallsInPlace in
    let (ill, same, stays) = c.in-Err.ensures in
    call_malformed m.calling m.state_of m.Valid c.args.run.now c.args.from.now.player ill (rw same at c.malformed.ensures)
