-- `render` meets its contract. The invariant is a record: the voice, the last count and both buffers are the definitions at the loop's counter. `turn` is one turn over plain variables.
-- Assumes nothing.
use mathlib.Core.Path.{refl, sym}
use native.Mathlib.Omega.{arith}
use Rattle.listlaws.proofs.Over.{over_none}
use Rattle.bank.specs.Render.{voice_after, outs, last_count}
use Rattle.bank.proofs.stretch.render.Invariants.{counted, turn}
use Rattle.bank.proofs.stretch.render.Goals as goal

pub loop-j-init : goal.loop-j-init
unfolding voice_after outs last_count
loop-j-init c =
    record { voice_is = refl; count_is = refl; x_is = sym (over_none _ _); y_is = sym (over_none _ _); kept_is = c.requires.kept_for }

pub next-r-requires : goal.next-r-requires
next-r-requires c = omega (arith, counted c.loop-j.invariant, c.requires.anchor_small)

pub loop-j-preserved : goal.loop-j-preserved
loop-j-preserved c =
    turn c.loop-j.invariant c.count.result c.next-r.result c.generate-g.result c.put-p.result c.count.ensures c.next-r.ensures c.generate-g.ensures c.put-p.ensures
    (omega (arith, c.requires.room_x)) (omega (arith, c.requires.room_y))
