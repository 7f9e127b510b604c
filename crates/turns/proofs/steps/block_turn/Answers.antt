-- `block_turn` meets its contract. Assumes nothing.
use Rattle.std.proofs.Common.{sym, length-take-le}
use Rattle.turns.specs.declared.Sitting.TheVariants as Sitting
use Rattle.turns.proofs.One.{block_fails, block_fits, block_turned}
use Rattle.turns.proofs.steps.block_turn.Goals as goal

pub returns-in-Err : goal.returns-in-Err
returns-in-Err c =
    let a = c.args in
    rw (block_fails a.p.now a.frames a.taken a.x.now a.y.now c.requires.1 c.requires.2 c.in-Err.ensures c.number.ensures) (c.fail.ensures (Sitting.Playing a.p.now))

pub slice_bounds-write_lines-end : goal.slice_bounds-write_lines-end
slice_bounds-write_lines-end c =
    let a = c.args in
    (block_fits a.p.now a.frames a.taken a.x.now a.y.now c.requires.1 c.requires.2 c.in-Ok.ensures c.play.auto.x c.play.auto.y).0

pub slice_bounds-write_lines-end-in-Ok : goal.slice_bounds-write_lines-end-in-Ok
slice_bounds-write_lines-end-in-Ok c =
    let a = c.args in
    let fit = block_fits a.p.now a.frames a.taken a.x.now a.y.now c.requires.1 c.requires.2 c.in-Ok.ensures c.play.auto.x c.play.auto.y in
    sym (length-take-le _ _ fit.0)

pub slice_bounds-write_lines-end-in-Ok-2 : goal.slice_bounds-write_lines-end-in-Ok-2
slice_bounds-write_lines-end-in-Ok-2 c =
    let a = c.args in
    (block_fits a.p.now a.frames a.taken a.x.now a.y.now c.requires.1 c.requires.2 c.in-Ok.ensures c.play.auto.x c.play.auto.y).1

pub slice_bounds-write_lines-end-in-Ok-3 : goal.slice_bounds-write_lines-end-in-Ok-3
slice_bounds-write_lines-end-in-Ok-3 c =
    let a = c.args in
    let fit = block_fits a.p.now a.frames a.taken a.x.now a.y.now c.requires.1 c.requires.2 c.in-Ok.ensures c.play.auto.x c.play.auto.y in
    sym (length-take-le _ _ fit.1)

pub returns-in-Ok : goal.returns-in-Ok
returns-in-Ok c =
    let a = c.args in
    block_turned a.p.now a.frames a.taken a.x.now a.y.now c.requires.1 c.requires.2 c.in-Ok.ensures c.play.auto.x c.play.auto.y
    c.requires.0.room
    c.write_lines-w.ensures
    c.moved_on-p.ensures
    c.place_after.ensures
    c.go_on.ensures.0
    c.go_on.ensures.1
