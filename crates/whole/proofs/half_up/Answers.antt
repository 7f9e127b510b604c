-- `whole::half_up` meets its contract, by the laws of proofs/Half.antt. MIR has each number by its bit pattern, and `of_bits` computes to the law's numbers.
-- Assumes nothing.
use Rattle.std.proofs.Common.{T, true, sym, subst, ◌≡◌}
use lib.Ieee.{binary32, of_bits, lt}
use Rattle.floatlaws.specs.Whole.{to_half, whole_of}
use Rattle.whole.proofs.Half.{Halves, nearest, big, halves, large}
use Rattle.whole.proofs.half_up.Goals as goal
use Rattle.whole.proofs.half_up.Goals.{Start}

at : (c : Start) → lt c.args.x big ≡ true → Halves c.args.x (nearest c.args.x) (whole_of binary32 to_half c.args.x)
at c h = halves c.args.x (subst T (sym c.well_formed.0.1) tt) c.requires h

pub returns-then-x-near : goal.returns-then-x-near
unfolding of_bits
returns-then-x-near c = (at (goal.at.returns-then-x-near c).Start c.if-x.true).more c.if-x-near.true

pub returns-else-x-near : goal.returns-else-x-near
unfolding of_bits
returns-else-x-near c = (at (goal.at.returns-else-x-near c).Start c.if-x.true).same c.if-x-near.false

pub returns-else-x : goal.returns-else-x
unfolding of_bits
returns-else-x c = large c.args.x (subst T (sym c.well_formed.0.1) tt) c.requires c.if-x.false
