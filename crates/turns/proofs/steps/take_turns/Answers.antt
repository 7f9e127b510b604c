-- `take_turns` meets its contract. Assumes nothing.
use native.Mathlib.Omega.{arith}
use Rattle.turns.proofs.Several.{ran_first, ran_waits, ran_ahead, ran_on, ran_end, part}
use Rattle.turns.proofs.steps.take_turns.Goals as goal

pub loop-at-init : goal.loop-at-init
loop-at-init c = (c.requires.1, c.requires.2, c.requires.0, ran_first c.requires.0)

pub returns-in_default : goal.returns-in_default
returns-in_default c =
    let i = c.loop-at.invariant in
    ran_waits i.2 i.3 (rw (part c.args.s.now c.loop-at.at) at c.in_default.ensures)

pub overflow_add-at : goal.overflow_add-at
overflow_add-at c =
    let i = c.loop-at.invariant in
    let w = rw (part c.args.s.now c.loop-at.at) at c.in-Some.ensures in
    record { fits = omega (arith, (ran_ahead i.2 i.3 w c.loop-at-test.true).1) }

pub loop-at-smaller : goal.loop-at-smaller
loop-at-smaller c =
    let i = c.loop-at.invariant in
    let w = rw (part c.args.s.now c.loop-at.at) at c.in-Some.ensures in
    omega (arith, ran_ahead i.2 i.3 w c.loop-at-test.true, c.loop-at-test.true)

pub loop-at-preserved : goal.loop-at-preserved
loop-at-preserved c =
    let i = c.loop-at.invariant in
    let w = rw (part c.args.s.now c.loop-at.at) at c.in-Some.ensures in
    (omega arith, omega arith, i.2, rw c.settle.ensures (ran_on i.2 i.3 w c.loop-at-test.true))

pub returns-after-loop-at : goal.returns-after-loop-at
returns-after-loop-at c = let i = c.loop-at.invariant in ran_end i.2 i.3 c.loop-at-test.false
