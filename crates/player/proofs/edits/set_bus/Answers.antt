-- `set_bus` meets its contract. Assumes nothing.
use native.Mathlib.Omega.{arith}
use Rattle.questions.proofs.Results.{passed_on}
use Rattle.player.proofs.Sets.{bus_refused, bus_few, bus_same, bus_set}
use Rattle.player.proofs.edits.set_bus.Goals as goal

pub returns-in_err-bus_answer : goal.returns-in_err-bus_answer
returns-in_err-bus_answer c = rw (passed_on _ c.from_residual.ensures) (bus_refused _ c.requires _ _ _ c.in_err-bus_answer.ensures)

pub offset_bounds-buses-k : goal.offset_bounds-buses-k
offset_bounds-buses-k c = record { fits = omega (arith, bus_few _ c.requires _ _ c.in_ok-bus_answer.ensures) }

pub bounds-buses-k : goal.bounds-buses-k
bounds-buses-k c = bus_few _ c.requires _ _ c.in_ok-bus_answer.ensures

pub returns-then-buses-k : goal.returns-then-buses-k
returns-then-buses-k c = bus_same _ c.requires _ _ c.in_ok-bus_answer.ensures c.if-buses-k.true

pub offset_bounds-buses-k-2 : goal.offset_bounds-buses-k-2
offset_bounds-buses-k-2 c = record { fits = omega (arith, bus_few _ c.requires _ _ c.in_ok-bus_answer.ensures) }

pub bounds-buses-k-2 : goal.bounds-buses-k-2
bounds-buses-k-2 c = bus_few _ c.requires _ _ c.in_ok-bus_answer.ensures

pub returns : goal.returns
returns c = bus_set _ c.requires _ _ c.in_ok-bus_answer.ensures c.if-buses-k.false _ c.of.ensures _ c.edited.ensures
