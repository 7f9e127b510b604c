-- `bus_value` meets its contract. Assumes nothing.
use borrow.Author.Tests.{lt-ltb, le-ltb}
use Rattle.points.specs.Modulation.{bus_value}
use Rattle.points.proofs.bus_value.Goals as goal

pub returns-then-at-lt-POINT_BUSES : goal.returns-then-at-lt-POINT_BUSES
unfolding bus_value
returns-then-at-lt-POINT_BUSES c = simp (lt-ltb _ _ c.if-at-lt-POINT_BUSES.true)

pub returns-else-at-lt-POINT_BUSES : goal.returns-else-at-lt-POINT_BUSES
unfolding bus_value
returns-else-at-lt-POINT_BUSES c = simp (le-ltb _ _ c.if-at-lt-POINT_BUSES.false)
