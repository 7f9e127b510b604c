-- `read_by_number` meets its contract. Assumes nothing.
use native.Mathlib.Omega.{arith}
use Rattle.sittings.specs.Events.{unknown}
use Rattle.sittings.proofs.Reading.{other_number}
use Rattle.sittings.proofs.events.read_by_number.Goals as goal

pub returns-in_default : goal.returns-in_default
unfolding unknown
returns-in_default c = rw (other_number c.args.number (λ e. omega arith) (λ e. omega arith) (λ e. omega arith) (λ e. omega arith))
