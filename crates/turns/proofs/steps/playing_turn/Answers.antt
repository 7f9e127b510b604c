-- `playing_turn` meets its contract. Assumes nothing.
use mathlib.Core.Path.{refl}
use Rattle.turns.specs.declared.Sitting.TheVariants as Sitting
use Rattle.turns.specs.Turns.{course_of}
use Rattle.turns.proofs.One.{playing_none, playing_fault, playing_event}
use Rattle.turns.proofs.steps.playing_turn.Goals as goal

pub returns-then-s-eq0 : goal.returns-then-s-eq0
returns-then-s-eq0 c =
    rw (playing_none (course_of c.args.p.now) c.args.s.now c.if-s-eq0.true) (refl, refl, refl)

pub returns-in-Ok : goal.returns-in-Ok
returns-in-Ok c =
    rw (playing_event c.args.p.now c.args.s.now c.if-s-eq0.false _ _ c.in-Ok.ensures) c.event_turn.ensures

pub returns-in-Err : goal.returns-in-Err
returns-in-Err c =
    rw (playing_fault c.args.p.now c.args.s.now c.if-s-eq0.false _ c.in-Err.ensures, ← c.number.ensures) (c.fault_turn.ensures (Sitting.Playing c.args.p.now))
