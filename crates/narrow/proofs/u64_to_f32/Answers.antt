-- `narrow::u64_to_f32` meets its contract, by the laws of proofs/Digits.antt.
-- Assumes nothing.
use Rattle.std.proofs.Common.{◌-◌, ◌≤◌, lt_of_le_of_lt, lit<}
use lib.Count.{count_leading_zeros}
use Rattle.narrow.proofs.Digits.{Placed, placed, pattern_wide, pattern_fits, pattern_number, pattern_is}
use Rattle.narrow.proofs.u64_to_f32.Goals as goal
use Rattle.narrow.proofs.u64_to_f32.Goals.{Else-n-lt16777216}

-- where the leading zeros put the cut
place : (c : Else-n-lt16777216) → (count_leading_zeros 64 c.args.n ≤ 40) × Placed c.args.n (40 - count_leading_zeros 64 c.args.n)
place c = placed c.args.n c.ranges.n.fits c.if-n-lt16777216.false

pub overflow_sub-t : goal.overflow_sub-t
overflow_sub-t c = (place (goal.at.overflow_sub-t c).Else-n-lt16777216).0

pub cut_even-requires : goal.cut_even-requires
cut_even-requires c = record { some = (place (goal.at.cut_even-requires c).Else-n-lt16777216).1.0; below_64 = lt_of_le_of_lt (place (goal.at.cut_even-requires c).Else-n-lt16777216).1.1 (lit< tt) }

pub overflow_add-result-else-n-lt16777216 : goal.overflow_add-result-else-n-lt16777216
overflow_add-result-else-n-lt16777216 c = record { fits = pattern_wide c.args.n (40 - count_leading_zeros 64 c.args.n) c.cut_even.result (place (goal.at.overflow_add-result-else-n-lt16777216 c).Else-n-lt16777216).1 c.cut_even.ensures }

pub overflow_cast-result : goal.overflow_cast-result
overflow_cast-result c = record { fits = pattern_fits c.args.n (40 - count_leading_zeros 64 c.args.n) c.cut_even.result (place (goal.at.overflow_cast-result c).Else-n-lt16777216).1 c.cut_even.ensures }

pub float_from_bits-result : goal.float_from_bits-result
float_from_bits-result c = pattern_number c.args.n (40 - count_leading_zeros 64 c.args.n) c.cut_even.result (place (goal.at.float_from_bits-result c).Else-n-lt16777216).1 c.cut_even.ensures

pub returns-else-n-lt16777216 : goal.returns-else-n-lt16777216
returns-else-n-lt16777216 c = pattern_is c.args.n (40 - count_leading_zeros 64 c.args.n) c.cut_even.result (place (goal.at.returns-else-n-lt16777216 c).Else-n-lt16777216).1 c.cut_even.ensures
