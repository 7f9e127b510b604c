-- `segment_count` meets its contract, by its cases. Assumes nothing.
use native.Mathlib.Nat.{le_refl}
use native.Mathlib.Omega.{arith}
use borrow.Author.Rules.{rules}
use borrow.Author.Tests.{lt-ltb, le-ltb}
use Rattle.path_segments.specs.Times.{segments_of}
use Rattle.path_segments.proofs.timing.segment_count.Goals as goal

pub returns-then-len-lt2 : goal.returns-then-len-lt2
unfolding segments_of
returns-then-len-lt2 c = (rw (lt-ltb _ _ c.if-len-lt2.true), search rules)

pub returns-then-closed : goal.returns-then-closed
unfolding segments_of
returns-then-closed c = (rw (le-ltb _ _ c.if-len-lt2.false, c.if-closed.true), le_refl _)

pub returns : goal.returns
unfolding segments_of
returns c = (rw (le-ltb _ _ c.if-len-lt2.false, c.if-closed.false), omega arith)
