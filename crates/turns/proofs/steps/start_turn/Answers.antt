-- `start_turn` meets its contract. Assumes nothing.
use native.Mathlib.Omega.{arith}
use Rattle.std.specs.Prelude.{None}
use Rattle.text.specs.Lines.{header}
use Rattle.turns.specs.declared.Sitting.TheVariants as Sitting
use Rattle.turns.specs.Turns.{first_playback}
use Rattle.turns.proofs.One.{turn_writes}
use Rattle.turns.proofs.steps.start_turn.Goals as goal

pub returns : goal.returns
unfolding header
returns c =
    let a = c.args in
    let start = first_playback a.player a.transport in
    turn_writes c.requires.0 c.write_header-w.ensures (omega arith) (Sitting.Playing start) None (omega arith) c.requires.1 a.taken (rw c.place_after.ensures at c.go.ensures)
