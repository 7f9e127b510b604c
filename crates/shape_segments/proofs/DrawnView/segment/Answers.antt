-- `DrawnView::segment` meets its contract: there are no points, or the segment is the one at the place that was found. Assumes nothing.
use Rattle.std.proofs.Common.{◌≡◌, length, sym, rules}
use Rattle.shape_segments.proofs.Cases.{no_points, at_place}
use Rattle.shape_segments.proofs.DrawnView.segment.Goals as goal

pub returns-then-is_empty : goal.returns-then-is_empty
returns-then-is_empty c =
    let none : length c.args.self.xs.now ≡ 0 = search rules in
    rw (c.hold.ensures, c.infinity.ensures, c.neg_infinity.ensures)
    (sym (no_points _ _ _ _ _ _ none))

pub returns : goal.returns
returns c =
    let some : length c.args.self.xs.now ≡ 0 → ⊥ = search rules in
    rw c.segment_at.ensures
    (sym (at_place _ _ _ _ _ _ _ some c.partition_point.ensures.0))
