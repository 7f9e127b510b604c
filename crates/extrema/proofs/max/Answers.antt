-- `extrema::max` meets its contract: at each of its six ways out the tests say what `max_of` picks. Assumes nothing.
use Rattle.std.proofs.Common.{sym, ap, ◌∙◌, not}
use Rattle.std.specs.Float.Ieee.{ne}
use Rattle.floatlaws.proofs.Extrema.{max_less, max_more, max_nan, max_to_nan}
use Rattle.extrema.proofs.Even.{max_even}
use Rattle.extrema.proofs.max.Goals as goal

pub returns-then-is_below : goal.returns-then-is_below
returns-then-is_below g c = max_less _ _ (sym c.is_below.ensures ∙ c.if-is_below.true)

pub returns-then-is_below-2 : goal.returns-then-is_below-2
returns-then-is_below-2 g c = max_more _ _ (sym c.is_below-else-is_below.ensures ∙ c.if-is_below-2.true)

pub returns-then-is_negative : goal.returns-then-is_negative
returns-then-is_negative g c =
    max_even _ _ (sym c.is_below.ensures ∙ c.if-is_below.false) (sym c.equals.ensures ∙ c.if-equals.true)
    (sym c.is_negative.ensures ∙ c.if-is_negative.true)

pub returns-else-is_negative : goal.returns-else-is_negative
returns-else-is_negative g c =
    max_even _ _ (sym c.is_below.ensures ∙ c.if-is_below.false) (sym c.equals.ensures ∙ c.if-equals.true)
    (sym c.is_negative.ensures ∙ c.if-is_negative.false)

pub returns-then-equals-2 : goal.returns-then-equals-2
unfolding ne
returns-then-equals-2 g c =
    max_to_nan _ _ (ap not (sym c.equals-else-equals.ensures ∙ c.if-equals-2.true)) (sym c.is_below.ensures ∙ c.if-is_below.false)
    (ap not (sym c.equals.ensures ∙ c.if-equals.false))

pub returns-else-equals-2 : goal.returns-else-equals-2
unfolding ne
returns-else-equals-2 g c = max_nan _ _ (ap not (sym c.equals-else-equals.ensures ∙ c.if-equals-2.false))
