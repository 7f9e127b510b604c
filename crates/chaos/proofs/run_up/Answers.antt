-- `chaos::run_up` meets its contract. As many steps are taken as the counter says. Assumes nothing.
use native.Mathlib.Omega.{arith}
use lib.Ieee.{of_bits, round}
use Rattle.chaos.specs.Law.{field_of}
use Rattle.chaos.proofs.Slopes.{in_a_row, one_more}
use Rattle.chaos.proofs.run_up.Goals as goal

pub loop-preserved : goal.loop-preserved
unfolding of_bits round
loop-preserved c =
    let args = c.args in
    let one =
    in_a_row (field_of args.attractor) args.h c.loop.at c.derivative-k1.ensures c.along.ensures
    c.derivative-k2.ensures c.plus.ensures c.along-next.ensures in
    (omega arith, one_more args.attractor args.h args.s c.loop.counter c.loop.invariant.1 one)
