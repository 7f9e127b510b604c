-- `DrawnView::segment_at` meets its contract: at each return the tests that led there say which case of the definition it is. Assumes nothing.
use mathlib.Core.Path.{sym}
use Rattle.shape_segments.proofs.Cases.{before_first, after_last, in_step, in_curve}
use Rattle.shape_segments.proofs.DrawnView.segment_at.Goals as goal

pub returns-then-i-eq0 : goal.returns-then-i-eq0
returns-then-i-eq0 c =
    rw (c.hold.ensures, c.neg_infinity.ensures)
    (sym (before_first _ _ _ _ _ _ c.if-i-eq0.true))

pub returns-then-i-self : goal.returns-then-i-self
returns-then-i-self c =
    rw (c.hold-then-i-self.ensures, c.infinity.ensures)
    (sym (after_last _ _ _ _ _ _ c.if-i-eq0.false c.if-i-self.true))

pub returns-then-self-k : goal.returns-then-self-k
returns-then-self-k c =
    rw c.hold-then-self-k.ensures
    (sym (in_step _ _ _ _ _ _ c.if-i-eq0.false c.if-i-self.false c.if-self-k.true))

pub returns : goal.returns
returns c =
    rw c.between.ensures
    (sym (in_curve _ _ _ _ _ _ c.if-i-eq0.false c.if-i-self.false c.if-self-k.false))
