-- A point is put, part by part. Assumes nothing.
use mathlib.Core.Path.{◌≡◌, refl}
use mathlib.Core.Bool.{Bool, true, false, cond}
use mir.Val.{bool_byte}
use Rattle.record.specs.Writing.{point_bytes}
use Rattle.item_writer.proofs.Laws.{◌then◌}
use Rattle.item_writer.proofs.shapes.PointPut.put.Goals as goal

step_number : (b : Bool) → bool_byte b ≡ cond b 1 0
step_number true = refl
step_number false = refl

pub returns : goal.returns
unfolding point_bytes
returns c =
    c.put-x.ensures
    then c.put-y.ensures
    then c.put-curve.ensures
    then (rw (c.from.ensures, step_number) at c.put-step.ensures)
    then c.put-x_mod.ensures
    then c.put.ensures
