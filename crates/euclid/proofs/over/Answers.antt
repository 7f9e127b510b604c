-- `over` meets its contract, by the laws of proofs/Doublings.antt. MIR has 0.0 by its bit pattern, and `of_bits` computes. Assumes nothing.
use Rattle.std.proofs.Common.{T, sym, subst, ap, ◌∙◌}
use lib.Ieee.{neg, of_bits}
use Rattle.euclid.proofs.Doublings.{none_left, is_positive, is_negative, negative_left, zero_left}
use Rattle.euclid.proofs.over.Goals as goal

pub returns-then-none : goal.returns-then-none
unfolding of_bits
returns-then-none c = none_left c.args.x c.args.y c.if-none.true

pub reduced-requires-clause-x_above : goal.reduced-requires-clause-x_above
unfolding of_bits
reduced-requires-clause-x_above c = is_positive c.args.x c.if-none.false c.if-x.true

pub reduced-requires-then-x-2-clause-x_above : goal.reduced-requires-then-x-2-clause-x_above
unfolding of_bits
reduced-requires-then-x-2-clause-x_above c = is_negative c.args.x c.if-none.false c.if-x-2.true

pub returns-then-x-2 : goal.returns-then-x-2
unfolding of_bits
returns-then-x-2 c = ap neg c.reduced-then-x-2.ensures ∙ negative_left c.args.x c.args.y c.if-none.false c.if-x-2.true c.requires

pub returns-else-x-2 : goal.returns-else-x-2
unfolding of_bits
returns-else-x-2 c = zero_left c.args.x c.args.y (subst T (sym c.well_formed.0.1) tt) c.if-none.false c.if-x.false c.if-x-2.false c.requires
