-- `size` meets its contract, by the power of ten below n. Assumes nothing.
use Rattle.text.proofs.Decimal.{size_is}
use Rattle.text.proofs.digits.size.Goals as goal

pub returns : goal.returns
returns c = size_is c.args.n c.ilog10.result c.max.ensures c.ilog10.ensures.power_le c.ilog10.ensures.next_power_gt
