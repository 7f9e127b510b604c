-- `narrow::cut_even` meets its contract, by the laws of proofs/Digits.antt.
-- Assumes nothing.
use Rattle.narrow.proofs.Digits.{cut_is, cut_fits}
use Rattle.narrow.proofs.cut_even.Goals as goal

pub overflow_add-result : goal.overflow_add-result
overflow_add-result c = record { fits = cut_fits c.args.n c.args.t c.requires.some c.requires.below_64 c.ranges.n.fits }

pub returns : goal.returns
returns c = cut_is c.args.n c.args.t c.requires.some c.requires.below_64 c.ranges.n.fits
