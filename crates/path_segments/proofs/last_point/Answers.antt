-- `last_point` meets its contract. Assumes nothing.
use native.Mathlib.Nat.{le_refl}
use borrow.Author.Rules.{rules}
use Rattle.path_segments.specs.Segments.{last_of}
use Rattle.path_segments.proofs.last_point.Goals as goal

pub returns-then-closed : goal.returns-then-closed
unfolding last_of
returns-then-closed c = (rw c.if-closed.true, search rules)

pub returns : goal.returns
unfolding last_of
returns c = (rw c.if-closed.false, le_refl _)
