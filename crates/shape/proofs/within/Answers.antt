-- `within` meets its contract, by its cases. Assumes nothing.
use borrow.Author.Tests.{lt-ltb, le-ltb}
use Rattle.shape.specs.Shapes.{within}
use Rattle.shape.proofs.within.Goals as goal

pub returns-in-Some : goal.returns-in-Some
unfolding within
returns-in-Some c = rw (c.in-Some.is, lt-ltb _ _ c.if-i-len.true)

pub returns-in_default : goal.returns-in_default
unfolding within
returns-in_default c = rw (c.in-Some.is, le-ltb _ _ c.if-i-len.false)

pub returns-in_default-2 : goal.returns-in_default-2
unfolding within
returns-in_default-2 c = rw c.in_default.is
