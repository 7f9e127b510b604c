-- `extrema::neg_infinity` meets its contract, by computation. Assumes nothing.
use mathlib.Core.Path.{refl}
use lib.Ieee.{of_bits}
use Rattle.extrema.proofs.neg_infinity.Goals as goal

pub returns : goal.returns
unfolding of_bits
returns c = refl
