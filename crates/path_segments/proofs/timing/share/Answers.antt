-- `share` meets its contract, by its cases. Assumes nothing.
use borrow.Author.Tests.{lt-ltb, le-ltb}
use Rattle.path_segments.specs.Times.{share_of}
use Rattle.path_segments.proofs.timing.share.Goals as goal

pub returns-then-total : goal.returns-then-total
unfolding share_of
returns-then-total c = rw c.if-total.true

pub returns-then-n-gt0 : goal.returns-then-n-gt0
unfolding share_of
returns-then-n-gt0 c = rw (c.if-total.false, lt-ltb _ _ c.if-n-gt0.true)

pub returns : goal.returns
unfolding share_of
returns c = rw (c.if-total.false, le-ltb _ _ c.if-n-gt0.false)
