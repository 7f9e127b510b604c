-- `more_size` meets its contract. The invariant: the bytes counted and those to come are one more than all, since the end is counted
-- first. Assumes nothing.
use Prim.Native.Nat.{◌≤◌}
use mathlib.Core.Path.{ap}
use native.Mathlib.Omega.{arith}
use lib.ListN.{length}
use Rattle.text.proofs.Decimal.{size_most}
use Rattle.text.proofs.Steps.{more_end}
use Rattle.text.proofs.lines.more_size.Invariants.{turn}
use Rattle.text.proofs.lines.more_size.Goals as goal
use Rattle.text.proofs.lines.more_size.Goals.{After-size}

-- the number at the place has at most 20 digits
few : (c : After-size) → c.size.result ≤ 20
few c =
    rw c.size.ensures (size_most _ (c.type_inv.s c.loop-n.n-index).fits)

pub overflow_add-sum : goal.overflow_add-sum
overflow_add-sum c = omega (arith, few (goal.at.overflow_add-sum c).After-size)

pub overflow_add-sum-in-loop-n : goal.overflow_add-sum-in-loop-n
overflow_add-sum-in-loop-n c =
    omega (arith, few (goal.at.overflow_add-sum-in-loop-n c).After-size, c.loop-n.invariant.small, c.loop-n.invariant.within, c.requires)

pub loop-n-preserved : goal.loop-n-preserved
loop-n-preserved c =
    turn c.loop-n.invariant c.loop-n-test.true (c.type_inv.s c.loop-n.n-index).fits c.size.ensures

pub returns : goal.returns
returns c =
    let p = c.loop-n.invariant in
    let s = c.args.s.now in
    (omega (arith, p.total, ap length (more_end s c.loop-n.n-index c.loop-n-test.false p.within)), omega (arith, p.small, p.within))
