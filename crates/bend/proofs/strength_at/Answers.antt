-- `bend::strength_at` meets its contract, by the laws of proofs/Pattern.antt. Assumes nothing.
use Rattle.std.proofs.Common.{◌≡◌, ◌+◌, ◌*◌, ◌≤◌, sym, ap, ◌∙◌, arith}
use lib.Ieee.{binary32, of_bits}
use Rattle.floatlaws.proofs.Cut.{pattern_no_nan}
use Rattle.bend.specs.Entries.{entry_of}
use Rattle.bend.proofs.Pattern.{pattern, pattern_most, strength_is}
use Rattle.bend.proofs.strength_at.Goals as goal
use Rattle.bend.proofs.strength_at.Goals.{After-cut_even-digits}

made : (c : After-cut_even-digits) → (c.octave-q.result + 122) * 8388608 + c.cut_even-digits.result ≡ pattern c.args.i
unfolding entry_of
made c = rw (c.cut_even-digits.ensures, c.requires.1, c.octave-q.ensures)

most : (c : After-cut_even-digits) → pattern c.args.i ≤ 0x4180_0000
most c = pattern_most c.args.i c.requires.0

pub float_from_bits-result : goal.float_from_bits-result
float_from_bits-result c = pattern_no_nan binary32 _ (omega (arith, made (goal.at.float_from_bits-result c).After-cut_even-digits, most (goal.at.float_from_bits-result c).After-cut_even-digits))

pub returns : goal.returns
returns c = ap (of_bits binary32) (made (goal.at.returns c).After-cut_even-digits) ∙ sym (strength_is c.args.i c.requires.0)
