-- `insert` meets its contract: the points that go after p move up, last first. Assumes nothing.
use Prim.Native.Nat.{◌+◌, ◌-◌}
use mathlib.Core.Path.{◌≡◌}
use native.Mathlib.Omega.{arith}
use Rattle.shape.proofs.Insertion.{move, stop, first}
use Rattle.shape.proofs.sorting.insert.Goals as goal

pub loop-j-preserved : goal.loop-j-preserved
loop-j-preserved c =
    let i = c.loop-j.invariant in
    let e : c.loop-j.j - 1 + 1 ≡ c.loop-j.j = omega arith in
    (i.0, rw e (move _ _ _ (omega arith) _ _ (omega arith) i.1 c.if-before-p.true))

pub returns-else-before-p : goal.returns-else-before-p
returns-else-before-p c =
    let i = c.loop-j.invariant in
    let e : c.loop-j.j - 1 + 1 ≡ c.loop-j.j = omega arith in
    rw e (stop _ _ _ (omega arith) _ _ (omega arith) i.1 c.if-before-p.false)

pub returns : goal.returns
returns c =
    let i = c.loop-j.invariant in
    let z : c.loop-j.j ≡ 0 = omega arith in
    rw (← z) (first _ _ _ (omega arith) _ _ (omega arith) i.1)
