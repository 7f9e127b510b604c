-- `chaos::run_up` meets its contract. As many steps are taken as the counter says. Assumes nothing.
use mathlib.Core.Path.{◌≡◌}
use Prim.Native.Nat.{◌-◌, ◌≤◌}
use Rattle.chaos.proofs.Slopes.{after}
use Rattle.chaos.proofs.run_up.Given as goal

abbrev pub invariant-loop : goal.invariant-loop
invariant-loop l = (l.counter ≤ l.n) × (l.at ≡ after l.attractor l.h l.initial.at l.counter)

abbrev pub decreases-loop : goal.decreases-loop
decreases-loop l = l.n - l.counter
