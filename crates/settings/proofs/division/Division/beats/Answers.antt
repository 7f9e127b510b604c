-- `Division::beats` meets its contract: the definition's length is the table's. Assumes nothing.
use Rattle.std.proofs.Common.{sym}
use Rattle.settings.proofs.Lengths.{beats_by_table}
use Rattle.settings.proofs.division.Division.beats.Goals as goal

pub returns : goal.returns
returns c = rw (c.beats.ensures, c.note_length.ensures) (sym (beats_by_table _ _))
