-- `number::writer::size` meets its contract, by the place of the highest bit. Assumes nothing.
use Rattle.number.proofs.Groups.{size_is}
use Rattle.number.proofs.writer.size.Goals as goal

pub returns : goal.returns
returns c = size_is c.args.n c.ranges.n.fits c.ilog2.result c.max.ensures c.ilog2.ensures.power_le c.ilog2.ensures.next_power_gt
