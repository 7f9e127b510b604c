-- How long a division lasts is what the table of crate divisions says. Proved in proofs/Lengths.antt. Assumes nothing.
use Rattle.std.specs.Prelude.{◌≡◌, Float}
use Rattle.divisions.specs.Lengths.{note_length, in_beats}
use Rattle.settings.specs.Divisions.{beats_of}
use Rattle.settings.specs.declared.division.Division.{Division}

-- "take them from that table" (document 02, W-206): of every division and in every bar the formula of `beats_of` gives the entry's length, bit for bit
abbrev pub BeatsByTable : Type 0
BeatsByTable = (d : Division) (bar : Float) → beats_of d bar ≡ in_beats (note_length d.0) bar
