-- Lines were written so far. Assumes nothing.
use Rattle.stored.specs.Shown.{AppendsLines}
use Rattle.stored.proofs.replay.Given as goal

abbrev pub invariant-loop : goal.invariant-loop
invariant-loop g l = AppendsLines (g.W.Write.contents l.initial.to) (g.W.Write.contents l.to)
