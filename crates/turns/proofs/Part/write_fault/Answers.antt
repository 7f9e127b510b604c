-- `write_fault` meets its contract. Assumes nothing.
use native.Mathlib.Omega.{arith}
use Rattle.turns.proofs.One.{item_short, event_short}
use Rattle.turns.proofs.Part.write_fault.Goals as goal

pub returns-in-Item-clause-short : goal.returns-in-Item-clause-short
returns-in-Item-clause-short c = rw c.in-Item.is (item_short c.args.n (omega arith))

pub returns-in-Event-clause-short : goal.returns-in-Event-clause-short
returns-in-Event-clause-short c = rw c.in-Event.is (event_short c.in-Event.index c.args.n (omega arith) (omega arith))
