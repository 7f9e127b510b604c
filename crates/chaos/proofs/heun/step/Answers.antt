-- `chaos::heun::step` meets its contract: what its five calls ensure is put in a row. Assumes nothing.
use lib.Ieee.{of_bits, round}
use Rattle.chaos.specs.Law.{field_of}
use Rattle.chaos.proofs.Slopes.{in_a_row}
use Rattle.chaos.proofs.heun.step.Goals as goal

pub returns : goal.returns
unfolding of_bits round
returns c =
    let args = c.args in
    in_a_row (field_of args.attractor) args.h args.s c.derivative-k1.ensures c.along.ensures
    c.derivative-k2.ensures c.plus.ensures c.along-2.ensures
