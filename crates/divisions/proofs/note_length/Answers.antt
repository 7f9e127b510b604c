-- `note_length` meets its contract: the code's table is the definition's, by computation. Assumes nothing.
use lib.Ieee.{of_bits, round}
use Rattle.divisions.specs.Lengths.{note_lengths, note_length}
use Rattle.divisions.proofs.note_length.Goals as goal

pub returns : goal.returns
unfolding note_length note_lengths of_bits round
returns c = rw c.min.ensures
