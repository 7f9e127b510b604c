-- `extrema::min` meets its contract: at each of its six ways out the tests say what `min_of` picks. Assumes nothing.
use Rattle.std.proofs.Common.{sym, ap, ◌∙◌, not}
use Rattle.std.specs.Float.Ieee.{ne}
use Rattle.floatlaws.proofs.Extrema.{min_less, min_more, min_nan, min_to_nan}
use Rattle.extrema.proofs.Even.{right_is_number, min_even}
use Rattle.extrema.proofs.min.Goals as goal

pub is_negative-requires : goal.is_negative-requires
is_negative-requires g c = right_is_number _ _ (sym c.equals.ensures ∙ c.if-equals.true)

pub returns-then-is_below : goal.returns-then-is_below
returns-then-is_below g c = min_more _ _ (sym c.is_below.ensures ∙ c.if-is_below.true)

pub returns-then-is_below-2 : goal.returns-then-is_below-2
returns-then-is_below-2 g c = min_less _ _ (sym c.is_below-else-is_below.ensures ∙ c.if-is_below-2.true)

pub returns-then-is_negative : goal.returns-then-is_negative
returns-then-is_negative g c =
    min_even _ _ (sym c.is_below.ensures ∙ c.if-is_below.false) (sym c.equals.ensures ∙ c.if-equals.true)
    (sym c.is_negative.ensures ∙ c.if-is_negative.true)

pub returns-else-is_negative : goal.returns-else-is_negative
returns-else-is_negative g c =
    min_even _ _ (sym c.is_below.ensures ∙ c.if-is_below.false) (sym c.equals.ensures ∙ c.if-equals.true)
    (sym c.is_negative.ensures ∙ c.if-is_negative.false)

pub returns-then-equals-2 : goal.returns-then-equals-2
unfolding ne
returns-then-equals-2 g c =
    min_to_nan _ _ (ap not (sym c.equals-else-equals.ensures ∙ c.if-equals-2.true)) (sym c.is_below.ensures ∙ c.if-is_below.false)
    (ap not (sym c.equals.ensures ∙ c.if-equals.false))

pub returns-else-equals-2 : goal.returns-else-equals-2
unfolding ne
returns-else-equals-2 g c = min_nan _ _ (ap not (sym c.equals-else-equals.ensures ∙ c.if-equals-2.false))
