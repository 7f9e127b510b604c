-- `event_turn` meets its contract. Assumes nothing.
use native.Mathlib.Omega.{arith}
use Rattle.std.specs.Prelude.{Some, None}
use Rattle.turns.specs.declared.Ended.TheVariants as Ended
use Rattle.turns.specs.declared.Sitting.TheVariants as Sitting
use Rattle.turns.specs.Turns.{restarted, next_sitting}
use Rattle.turns.proofs.One.{turn_goes, restart_goes, end_goes}
use Rattle.turns.proofs.steps.event_turn.Goals as goal

pub returns-in-Restart : goal.returns-in-Restart
returns-in-Restart c =
    let a = c.args in
    rw (c.in-Restart.is, restart_goes a.p.now _ a.taken, c.restart_turn.ensures.1)
    (turn_goes c.requires.0.room (next_sitting (restarted a.p.now _)) None (omega arith) c.requires.0.valid a.taken c.restart_turn.ensures.0)

pub returns-in-End : goal.returns-in-End
returns-in-End c =
    let a = c.args in
    rw (c.in-End.is, end_goes a.p.now a.taken)
    (turn_goes c.requires.0.room (Sitting.Playing a.p.now) (Some (Ended.Closing a.p.now.index)) (omega arith) tt a.taken c.go.ensures)
