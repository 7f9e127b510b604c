-- `Division::as_span` meets its contract. Assumes nothing.
use Rattle.std.proofs.Common.{eq-eqb, ne_eqb}
use Rattle.settings.specs.Divisions.{span_division}
use Rattle.settings.proofs.division.Division.as_span.Goals as goal

pub returns-then-self : goal.returns-then-self
unfolding span_division
returns-then-self c = simp (eq-eqb _ _ c.if-self.true)

pub returns-else-self : goal.returns-else-self
unfolding span_division
returns-else-self c = simp (ne_eqb _ _ c.if-self.false)
