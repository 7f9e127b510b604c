-- `replay` meets its contract. Assumes nothing.
use Rattle.stored.specs.Shown.{AppendsLines}
use Rattle.stored.proofs.Lines.{no_lines, more_lines, kept_lines, also_ok}
use Rattle.stored.proofs.replay.Goals.{else-loop-test, then-loop-test+in_ok-next+then-not-branch}
use Rattle.stored.proofs.replay.Goals as goal

pub loop-init : goal.loop-init
loop-init g c = no_lines _

pub loop-preserved : goal.loop-preserved
loop-preserved g c = more_lines _ _ _ c.loop.invariant c.in_ok-next.ensures

pub returns : goal.returns
returns g c =
    let shown : AppendsLines (g.W.Write.contents c.args.to.now) (g.W.Write.contents c.loop-test.to) =
    elim c.loop-test.branch [
      | else-loop-test w ↦ rw w.to-is c.loop.invariant
      | then-loop-test+in_ok-next+then-not-branch w ↦ rw w.to-is (more_lines _ _ _ c.loop.invariant w.in_ok-next.ensures)
    ] in
    also_ok c.flush.result (kept_lines _ _ _ shown c.flush.ensures.bytes)
