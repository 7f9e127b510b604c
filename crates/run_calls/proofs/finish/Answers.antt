-- `finish` meets its contract. Assumes nothing.
use Rattle.run_calls.proofs.Turning.{finishes_none}
use Rattle.run_calls.proofs.finish.Goals as goal

pub returns-in-Some : goal.returns-in-Some
returns-in-Some g c = rw c.in-Some.is c.calls_from.ensures

pub returns-in-None : goal.returns-in-None
returns-in-None g c = let m = g.C.CallsInPlace in finishes_none m.calling m.state_of m.Valid c.args.run.now c.args.out.now c.args.first.place _ c.in-None.is
