-- `narrow::size_to_f32` meets its contract, by the laws of proofs/Size.antt.
-- Assumes nothing.
use Rattle.std.proofs.Common.{◌+◌, ◌-◌, ◌/◌, T, sym, subst}
use lib.Bits.{bit_and}
use lib.Ieee.{binary32, binary64, add, fits, nan_bits, of_bits, to_bits}
use Rattle.floatlaws.specs.Narrow.{narrowed}
use Rattle.narrow.proofs.Size.{Made, Sum, large_is, normal_is, low_is}
use Rattle.narrow.proofs.size_to_f32.Goals as goal
use Rattle.narrow.proofs.size_to_f32.Goals.{Else-is_normal, Start, Then-is_normal}

held : (c : Start) → T (fits binary64 c.args.x)
held c = subst T (sym c.well_formed.0.1) tt

normal : (c : Then-is_normal) → Made ((to_bits binary64 c.args.x + 268435455 + bit_and (to_bits binary64 c.args.x / 536870912) 1) / 536870912 - 7516192768) (narrowed binary32 c.args.x)
normal c = normal_is c.args.x (held c.before.before) c.requires c.if-is_normal.true c.if-is_past_the_end.false

low : (c : Else-is_normal) → Sum (add binary64 c.args.x (of_bits binary64 0x39e0_0000_0000_0000)) (narrowed binary32 c.args.x)
low c = low_is c.args.x (held c.before.before) c.requires c.if-is_normal.false

pub float_from_bits-result : goal.float_from_bits-result
float_from_bits-result c = (normal (goal.at.float_from_bits-result c).Then-is_normal).1

pub float_from_bits-s : goal.float_from_bits-s
unfolding nan_bits
float_from_bits-s c = tt

pub float_to_bits-result : goal.float_to_bits-result
float_to_bits-result c = (low (goal.at.float_to_bits-result c).Else-is_normal).0

pub overflow_sub-result-else-is_normal : goal.overflow_sub-result-else-is_normal
overflow_sub-result-else-is_normal c = (low (goal.at.overflow_sub-result-else-is_normal c).Else-is_normal).1

pub overflow_cast-result-else-is_normal : goal.overflow_cast-result-else-is_normal
overflow_cast-result-else-is_normal c = record { fits = (low (goal.at.overflow_cast-result-else-is_normal c).Else-is_normal).2.0 }

pub float_from_bits-result-else-is_normal : goal.float_from_bits-result-else-is_normal
float_from_bits-result-else-is_normal c = (low (goal.at.float_from_bits-result-else-is_normal c).Else-is_normal).2.1

pub returns-then-is_past_the_end : goal.returns-then-is_past_the_end
returns-then-is_past_the_end c = large_is c.args.x (held (goal.at.returns-then-is_past_the_end c).Start) c.requires c.if-is_past_the_end.true

pub returns-then-is_normal : goal.returns-then-is_normal
returns-then-is_normal c = (normal (goal.at.returns-then-is_normal c).Then-is_normal).2

pub returns-else-is_normal : goal.returns-else-is_normal
returns-else-is_normal c = (low (goal.at.returns-else-is_normal c).Else-is_normal).2.2
