-- `whole::small_floor` meets its contract, by `steps` of proofs/Near.antt. MIR has each number by its bit pattern, and `of_bits` computes to the law's numbers.
-- Assumes nothing.
use Rattle.std.proofs.Common.{T, sym, subst}
use lib.Ieee.{binary64, of_bits}
use Rattle.floatlaws.specs.Whole.{to_floor, whole_of}
use Rattle.whole.proofs.Near.{Steps, nearby, steps}
use Rattle.whole.proofs.small_floor.Goals as goal
use Rattle.whole.proofs.small_floor.Goals.{Start}

at : (c : Start) → Steps c.args.x (nearby c.args.x) (whole_of binary64 to_floor c.args.x)
at c = steps c.args.x (subst T (sym c.well_formed.0.1) tt) c.requires.above c.requires.below

pub returns-then-x-t : goal.returns-then-x-t
unfolding of_bits
returns-then-x-t c = (at (goal.at.returns-then-x-t c).Start).less c.if-x-t.true

pub returns-then-t-x : goal.returns-then-t-x
unfolding of_bits
returns-then-t-x c = (at (goal.at.returns-then-t-x c).Start).same c.if-t-x.true

pub returns-else-t-x : goal.returns-else-t-x
unfolding of_bits
returns-else-t-x c = (at (goal.at.returns-else-t-x c).Start).itself c.if-x-t.false c.if-t-x.false
