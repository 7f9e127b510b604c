-- `chaos::advance` meets its contract. As many steps are taken as the counter says, and the box comes after the last.
-- Assumes nothing.
use mathlib.Core.Path.{◌≡◌, ap, ◌∙◌}
use native.Mathlib.Nat.{le_antisymm}
use Rattle.chaos.proofs.Slopes.{after}
use Rattle.chaos.proofs.advance.Invariants.{arrived}
use Rattle.chaos.proofs.advance.Goals as goal

pub returns : goal.returns
returns c = let k_ = let args = c.args in
    let all : c.loop.counter ≡ args.steps = le_antisymm c.loop.invariant.0 c.loop-test.false in
    arrived args.attractor args.h args.s args.steps (c.loop.invariant.1 ∙ ap (after args.attractor args.h args.s) all) c.in_box.ensures in record { value = k_.0; in_box = k_.1 }
