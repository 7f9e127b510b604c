-- `NoteLength::beats` meets its contract. Assumes nothing.
use Rattle.divisions.specs.Lengths.{in_beats}
use Rattle.divisions.proofs.NoteLength.beats.Goals as goal

pub returns-in-Bars : goal.returns-in-Bars
unfolding in_beats
returns-in-Bars c = rw c.in-Bars.is

pub returns-in-Beats : goal.returns-in-Beats
unfolding in_beats
returns-in-Beats c = rw c.in-Beats.is
