-- `extrema::infinity` meets its contract, by computation. Assumes nothing.
use mathlib.Core.Path.{refl}
use lib.Ieee.{of_bits}
use Rattle.extrema.proofs.infinity.Goals as goal

pub returns : goal.returns
unfolding of_bits
returns c = refl
