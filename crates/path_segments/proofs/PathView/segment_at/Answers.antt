-- `PathView::segment_at` meets its contract: at each return the tests that led there say which case of the definition it is. Assumes nothing.
use mathlib.Core.Path.{sym}
use Rattle.path_segments.proofs.Cases.{before_first, after_last, in_leg}
use Rattle.path_segments.proofs.PathView.segment_at.Goals as goal

pub returns-then-i-eq0 : goal.returns-then-i-eq0
returns-then-i-eq0 c =
    rw (c.hold.ensures, c.neg_infinity.ensures)
    (sym (before_first _ _ _ _ _ _ _ _ c.if-i-eq0.true))

pub returns-then-i-n : goal.returns-then-i-n
returns-then-i-n c =
    rw (c.hold-then-i-n.ensures, c.infinity.ensures, c.last_point-last.ensures.0)
    (sym (after_last _ _ _ _ _ _ _ _ c.if-i-eq0.false c.if-i-n.true))

pub returns : goal.returns
returns c = rw c.leg_segment.ensures (sym (in_leg _ _ _ _ _ _ _ _ c.if-i-eq0.false c.if-i-n.false))
