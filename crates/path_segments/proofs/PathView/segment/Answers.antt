-- `PathView::segment` meets its contract: there are no points, or no segments, or the segment is the one at the place that was found. Assumes nothing.
use Rattle.std.proofs.Common.{◌≡◌, ◌+◌, suc, length, sym, ◌∙◌, add-one, arith, rules}
use Rattle.points.specs.Arrays.{partition_point}
use Rattle.points.proofs.Partition.{partition_take}
use Rattle.path_segments.proofs.Cases.{no_points, no_segment, at_place}
use Rattle.path_segments.proofs.PathView.segment.Goals as goal

pub returns-then-is_empty : goal.returns-then-is_empty
returns-then-is_empty c =
    let none : length c.args.self.xs.now ≡ 0 = search rules in
    rw (c.hold.ensures, c.infinity.ensures, c.neg_infinity.ensures)
    (sym (no_points _ _ _ _ _ _ _ none))

pub returns-then-n-eq0 : goal.returns-then-n-eq0
returns-then-n-eq0 c =
    let some : length c.args.self.xs.now ≡ 0 → ⊥ = search rules in
    rw (c.hold-then-n-eq0.ensures, c.infinity-then-n-eq0.ensures, c.neg_infinity-then-n-eq0.ensures)
    (sym (no_segment _ _ _ _ _ _ _ _ some c.segment_count-n.ensures.0 c.if-n-eq0.true))

pub returns : goal.returns
returns c =
    let some : length c.args.self.xs.now ≡ 0 → ⊥ = search rules in
    let n = c.segment_count-n.result in
    let found : c.partition_point.result ≡ partition_point c.args.self.times.now (suc n) c.args.t =
    rw (← add-one n) (c.partition_point.ensures.0 ∙ partition_take c.args.self.times.now (n + 1) c.args.t (omega arith)) in
    rw c.segment_at.ensures
    (sym (at_place _ _ _ _ _ _ _ _ some c.segment_count-n.ensures.0 _ c.if-n-eq0.false found))
