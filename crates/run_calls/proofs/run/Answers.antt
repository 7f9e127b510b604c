-- `run` meets its contract. Assumes nothing.
use Rattle.run_calls.proofs.Turning.{runs}
use Rattle.run_calls.proofs.run.Goals as goal

pub returns : goal.returns
returns g c =
    let m = g.C.CallsInPlace in
    runs m.calling m.state_of m.Valid c.begin-first.ensures c.finish.ensures
