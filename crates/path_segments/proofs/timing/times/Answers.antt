-- `times` meets its contract. The loop's invariant: the first j times are stored, and j legs are summed. Assumes nothing.
use Rattle.std.proofs.Common.{◌≡◌, length, refl, ap, ◌∙◌, add-one, arith}
use Rattle.floatlaws.specs.Numbers.{f32_0}
use Rattle.listlaws.specs.Tables.{tabulate}
use Rattle.listlaws.proofs.Tabulation.{fill_more}
use Rattle.path_segments.specs.Times.{sum_to, times_of}
use Rattle.path_segments.proofs.timing.times.Invariants.{next_time}
use Rattle.path_segments.proofs.timing.times.Goals as goal

pub loop-j-init : goal.loop-j-init
unfolding sum_to tabulate
loop-j-init c = (refl, refl)

pub loop-j-preserved : goal.loop-j-preserved
unfolding sum_to
loop-j-preserved c =
    let inv = c.loop-j.invariant in
    let t = next_time _ _ _ _ _ _ inv.1 c.total-whole.ensures c.share.ensures in (
      rw (inv.0, t, add-one) (fill_more _ 65 f32_0 _ (omega arith)),
      rw (inv.1, add-one),
    )

pub returns : goal.returns
unfolding times_of
returns c =
    let e : c.loop-j.j ≡ length c.args.legs.now = omega arith in
    let sum = c.loop-j.invariant.1 ∙ ap (sum_to c.args.legs.now) e in
    let t = next_time _ _ _ _ _ _ sum c.total-whole.ensures c.share-2.ensures in
    rw (c.loop-j.invariant.0, t, e) (fill_more _ 65 f32_0 _ (omega arith))
