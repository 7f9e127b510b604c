-- `fault_turn` meets its contract. Assumes nothing.
use mathlib.Core.Path.{refl}
use native.Mathlib.Omega.{arith}
use borrow.Author.Tests.{eq-eqb, ne_eqb, lt-ltb, le-ltb}
use Rattle.sittings.specs.Windows.{fault_turn}
use Rattle.std.specs.Prelude.{Some}
use Rattle.turns.specs.declared.Ended.TheVariants as Ended
use Rattle.turns.proofs.One.{turn_goes}
use Rattle.turns.proofs.steps.fault_turn.Goals as goal

pub returns-then-most-len : goal.returns-then-most-len
unfolding fault_turn
returns-then-most-len c =
    let a = c.args in
    let most = c.most.ensures in
    let more = lt-ltb _ _ c.if-most-len.true in
    λ t. rw (eq-eqb _ _ c.if-n-eq12.true, ← most, more)
    (turn_goes c.requires t (Some (Ended.Stuck a.part)) (omega arith) tt _ c.go.ensures)

pub returns-then-n-eq12 : goal.returns-then-n-eq12
unfolding fault_turn
returns-then-n-eq12 c =
    let most = c.most.ensures in
    let few = le-ltb _ _ c.if-most-len.false in
    λ t. rw (eq-eqb _ _ c.if-n-eq12.true, ← most, few) (refl, refl, refl)

pub returns : goal.returns
unfolding fault_turn
returns c =
    λ t. rw (ne_eqb _ _ c.if-n-eq12.false) (c.fail.ensures t)
