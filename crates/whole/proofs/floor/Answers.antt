-- `whole::floor` meets its contract, by the laws of proofs/Part.antt.
-- Assumes nothing.
use Rattle.std.proofs.Common.{T, sym, subst}
use lib.Ieee.{of_bits, neg}
use Rattle.floatlaws.proofs.Tests.{yes_so}
use Rattle.whole.proofs.Part.{floor_down, floor_same}
use Rattle.whole.proofs.floor.Goals as goal

pub small_floor-requires : goal.small_floor-requires
unfolding of_bits neg
small_floor-requires c = record { above = yes_so c.if-x.true; below = yes_so c.if-x-2.true }

pub returns-then-is_above : goal.returns-then-is_above
returns-then-is_above c =
    floor_down c.args.x c.trunc-t.result (subst T (sym c.well_formed.0.1) tt) c.trunc-t.ensures c.if-is_above.true

pub returns-else-is_above : goal.returns-else-is_above
returns-else-is_above c =
    floor_same c.args.x c.trunc-t.result (subst T (sym c.well_formed.0.1) tt) c.trunc-t.ensures c.if-is_above.false
