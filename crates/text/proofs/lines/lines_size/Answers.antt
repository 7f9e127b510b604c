-- `lines_size` meets its contract. Assumes nothing.
use Prim.Native.Nat.{◌+◌, ◌≤◌}
use native.Mathlib.Omega.{arith}
use Rattle.text.proofs.Decimal.{size_most}
use Rattle.text.proofs.Steps.{size_none}
use Rattle.text.proofs.lines.lines_size.Invariants.{turn}
use Rattle.text.proofs.lines.lines_size.Goals as goal
use Rattle.text.proofs.lines.lines_size.Goals.{After-size}

-- a line's index has at most 20 digits
few : (c : After-size) → c.size.result ≤ 20
few c = rw c.size.ensures (size_most (c.args.first + c.loop-k.k) (omega (arith, c.requires, c.loop-k-test.true)))

pub overflow_add-sum : goal.overflow_add-sum
overflow_add-sum c = omega (arith, few (goal.at.overflow_add-sum c).After-size)

pub overflow_add-sum-in-loop-k : goal.overflow_add-sum-in-loop-k
overflow_add-sum-in-loop-k c = omega (arith, few (goal.at.overflow_add-sum-in-loop-k c).After-size, c.loop-k.invariant.small, c.requires)

pub loop-k-preserved : goal.loop-k-preserved
loop-k-preserved c = turn c.loop-k.invariant c.loop-k-test.true c.requires.1 c.size.ensures

pub returns : goal.returns
returns c = omega (arith, c.loop-k.invariant.total, size_none c.args.n (c.args.first + c.loop-k.k) c.loop-k.k c.loop-k-test.false)
