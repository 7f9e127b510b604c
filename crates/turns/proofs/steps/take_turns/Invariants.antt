-- `take_turns` meets its contract. Assumes nothing.
use Prim.Native.Nat.{◌-◌}
use mathlib.Core.Path.{◌≡◌}
use lib.ListN.{length}
use Rattle.turns.specs.Turns.{Running}
use Rattle.turns.proofs.Several.{Ran}
use Rattle.turns.proofs.steps.take_turns.Given as goal

abbrev pub invariant-loop-at : goal.invariant-loop-at
invariant-loop-at l = (length l.x ≡ 4096) × (length l.y ≡ 4096) × Running l.initial.sitting l.s l.initial.out × Ran l.initial.sitting l.s l.initial.out l.sitting l.at l.place l.out

abbrev pub decreases-loop-at : goal.decreases-loop-at
decreases-loop-at l = length l.s - l.at
