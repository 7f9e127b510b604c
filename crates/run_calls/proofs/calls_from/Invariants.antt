-- What is written and what is to come make the output. Assumes nothing.
use Prim.Native.Nat.{◌-◌, ◌≤◌}
use lib.ListN.{length}
use Rattle.std.specs.Prelude.{Some}
use Rattle.run_calls.specs.Turns.{behind}
use Rattle.run_calls.proofs.Turning.{Goes}
use Rattle.run_calls.proofs.calls_from.Given as goal

abbrev pub invariant-loop : goal.invariant-loop
invariant-loop g l =
    let m = g.C.CallsInPlace in
    (l.counter ≤ length l.run)
    × Goes m.calling m.state_of m.Valid l.run l.initial.out l.fn.place (behind m.calling m.state_of l.run (Some l.fn.next) (length l.run)) l.out
    (record { place = l.place; next = Some l.next }) (length l.run - l.counter)
