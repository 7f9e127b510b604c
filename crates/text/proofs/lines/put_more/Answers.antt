-- `put_more` meets its contract: what is written and what is to come make all of it. Assumes nothing.
use native.Mathlib.Numerals.{add-one}
use native.Mathlib.Omega.{arith}
use Rattle.listlaws.proofs.Write.{put_one, put_last}
use Rattle.text.proofs.Steps.{more_at, more_end}
use Rattle.text.proofs.lines.put_more.Invariants.{next_room, end_room}
use Rattle.text.proofs.lines.put_more.Goals as goal

pub put_next-place-requires : goal.put_next-place-requires
put_next-place-requires c =
    next_room _ c.requires c.loop-n.n-index c.loop-n.invariant c.loop-n-test.true

pub loop-n-preserved : goal.loop-n-preserved
loop-n-preserved c =
    rw add-one (put_one c.loop-n.invariant c.requires _ _ (more_at _ _ c.loop-n-test.true) c.put_next-place.ensures)

pub put_byte-requires : goal.put_byte-requires
put_byte-requires c =
    end_room _ c.requires c.loop-n.n-index c.loop-n.invariant c.loop-n-test.false (omega arith)

pub returns : goal.returns
returns c =
    put_last c.loop-n.invariant c.requires (rw (more_end _ _ c.loop-n-test.false (omega arith)) c.put_byte.ensures)
