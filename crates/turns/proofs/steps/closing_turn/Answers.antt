-- `closing_turn` meets its contract. Assumes nothing.
use mathlib.Core.Path.{refl}
use Rattle.turns.proofs.One.{closing_none, closing_some}
use Rattle.turns.proofs.steps.closing_turn.Goals as goal

pub returns-then-len-eq0 : goal.returns-then-len-eq0
returns-then-len-eq0 c =
    λ t. rw (closing_none c.args.index c.args.s.now c.if-len-eq0.true) (refl, refl, refl)

pub returns : goal.returns
returns c =
    λ t. rw (closing_some c.args.index c.args.s.now c.if-len-eq0.false) (c.fail.ensures t)
