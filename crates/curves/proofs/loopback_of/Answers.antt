-- `loopback_of` meets its contract, by its two cases. Assumes nothing.
use borrow.Author.Tests.{eq-eqb, ne_eqb}
use Rattle.curves.specs.Given.{loopback_of}
use Rattle.curves.proofs.loopback_of.Goals as goal

pub returns-then-c-eq1 : goal.returns-then-c-eq1
unfolding loopback_of
returns-then-c-eq1 c = rw (eq-eqb _ _ c.if-c-eq1.true)

pub returns-else-c-eq1 : goal.returns-else-c-eq1
unfolding loopback_of
returns-else-c-eq1 c = rw (ne_eqb _ _ c.if-c-eq1.false)
