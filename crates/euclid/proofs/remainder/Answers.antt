-- `remainder` meets its contract, by the laws of proofs/Doublings.antt. MIR has 0.0 by its bit pattern, and `of_bits` computes. Assumes nothing.
use Rattle.std.proofs.Common.{◌∙◌}
use lib.Ieee.{of_bits, div}
use Rattle.euclid.proofs.Doublings.{neg_above, rem_neg, rem_none}
use Rattle.euclid.proofs.remainder.Goals as goal

pub over-requires : goal.over-requires
unfolding of_bits
over-requires c = neg_above c.args.y c.if-y.true

pub returns-then-y : goal.returns-then-y
returns-then-y c = c.over.ensures ∙ rem_neg c.args.x c.args.y

pub returns-else-y-2 : goal.returns-else-y-2
unfolding of_bits div
returns-else-y-2 c = rem_none c.args.x c.args.y c.if-y.false c.if-y-2.false
