-- `ping_pong_once` meets its contract. Assumes nothing.
use Rattle.position.specs.Position.{ping_pong_once, ping_pong_loop}
use Rattle.position.proofs.place.ping_pong_once.Goals as goal
use Rattle.position.proofs.place.ping_pong_once.Goals.{in_default-via-in-Some+else-l, in_default-via-in_default}

pub returns-then-c : goal.returns-then-c
unfolding ping_pong_once
returns-then-c c = simp c.if-c.true

pub returns-in-Some : goal.returns-in-Some
unfolding ping_pong_once ping_pong_loop
returns-in-Some c = simp (c.bounce.ensures, c.rem_euclid_f64.ensures, c.if-c.false, c.in-Some.is, c.if-l.true)

pub returns-in_default : goal.returns-in_default
unfolding ping_pong_once ping_pong_loop
returns-in_default c =
    elim c.in_default.branch [
      | in_default-via-in-Some+else-l w ↦ simp (c.back_once.ensures, c.if-c.false, w.in-Some.is, w.if-l.false)
      | in_default-via-in_default w ↦ simp (c.back_once.ensures, c.if-c.false, w.in_default.is)
    ]
