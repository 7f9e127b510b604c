-- `bus_turn` meets its contract. Assumes nothing.
use native.Mathlib.Omega.{arith}
use Rattle.std.specs.Prelude.{None}
use Rattle.turns.specs.declared.Sitting.TheVariants as Sitting
use Rattle.turns.specs.Turns.{next_sitting}
use Rattle.turns.proofs.One.{bus_fails, bus_goes, with_player, turn_goes}
use Rattle.turns.proofs.steps.bus_turn.Goals as goal

pub returns-in-Err : goal.returns-in-Err
returns-in-Err c =
    let a = c.args in
    rw (bus_fails a.p.now a.bus a.value a.taken c.in-Err.ensures c.number.ensures) (c.fail.ensures (Sitting.Playing a.p.now))

pub returns-in-Ok : goal.returns-in-Ok
returns-in-Ok c =
    let a = c.args in
    rw (bus_goes a.p.now a.bus a.value a.taken c.in-Ok.ensures, c.go_on.ensures.1)
    (turn_goes c.requires.room (next_sitting (with_player a.p.now c.in-Ok.player)) None (omega arith) c.in-Ok.ensures.valid a.taken c.go_on.ensures.0)
