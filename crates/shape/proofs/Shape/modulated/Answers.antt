-- `Shape::modulated` meets its contract. The loop's invariant: the first i of both arrays are filled, and `floor` is the last x. Assumes nothing.
use mathlib.Core.Path.{refl}
use native.Mathlib.Numerals.{add-one}
use native.Mathlib.Omega.{arith}
use Rattle.floatlaws.specs.Numbers.{f32_0}
use Rattle.listlaws.specs.Tables.{tabulate}
use Rattle.shape.specs.Shapes.{floor_at, modulated_of}
use Rattle.listlaws.proofs.Tabulation.{fill_more}
use Rattle.shape.proofs.Shape.modulated.Invariants.{next_x, next_y}
use Rattle.shape.proofs.Shape.modulated.Goals as goal

pub loop-i-init : goal.loop-i-init
unfolding modulated_of tabulate floor_at
loop-i-init c = (refl, refl, refl)

pub loop-i-preserved : goal.loop-i-preserved
unfolding modulated_of
loop-i-preserved c =
    let args = c.args in
    let inv = c.loop-i.invariant in
    let x = next_x args.self.points args.buses.now c.loop-i.i _ _ _ inv.2 c.moved.ensures c.clamp-floor.ensures in
    let y = next_y args.self.points args.buses.now c.loop-i.i _ c.placed.ensures in (
      rw (inv.0, x, add-one) (fill_more _ 64 f32_0 _ (omega arith)),
      rw (inv.1, y, add-one) (fill_more _ 64 f32_0 _ (omega arith)),
      rw (x, add-one),
    )
