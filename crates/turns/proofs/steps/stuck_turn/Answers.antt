-- `stuck_turn` meets its contract. Assumes nothing.
use native.Mathlib.Omega.{arith}
use mathlib.Core.Path.{refl, sym, ◌∙◌}
use Rattle.std.specs.Prelude.{Some}
use Rattle.turns.specs.declared.Ended.TheVariants as Ended
use Rattle.turns.specs.Turns.{being_read}
use Rattle.turns.proofs.One.{turn_goes, stuck_none, stuck_on, stuck_ends}
use Rattle.turns.proofs.steps.stuck_turn.Goals as goal

pub returns-then-len-eq0 : goal.returns-then-len-eq0
returns-then-len-eq0 c =
    λ t. rw (stuck_none (being_read c.args.part) c.args.s.now c.if-len-eq0.true) (refl, refl, refl)

pub returns-in-Err-CutShort : goal.returns-in-Err-CutShort
returns-in-Err-CutShort c =
    let a = c.args in
    λ t. rw (stuck_on (being_read a.part) a.s.now c.if-len-eq0.false (sym c.read.ensures ∙ rw c.in-Err-CutShort.field-0-is at c.in-Err-CutShort.is))
    (turn_goes c.requires t (Some (Ended.Stuck a.part)) (omega arith) tt _ c.go.ensures)

pub returns-in-Err-BadNumber : goal.returns-in-Err-BadNumber
returns-in-Err-BadNumber c =
    let a = c.args in
    let is = rw c.in-Err-BadNumber.field-0-is at c.in-Err-BadNumber.is in
    λ t. rw (stuck_ends (being_read a.part) a.s.now c.if-len-eq0.false _ (sym c.read.ensures) (λ e. cc)) (c.fail.ensures t)

pub returns-in-Ok : goal.returns-in-Ok
returns-in-Ok c =
    let a = c.args in
    λ t. rw (stuck_ends (being_read a.part) a.s.now c.if-len-eq0.false _ (sym c.read.ensures ∙ c.in-Ok.is) (λ e. cc)) (c.fail-in-Ok.ensures t)
