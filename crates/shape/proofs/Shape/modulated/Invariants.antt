-- `Shape::modulated` meets its contract. The loop's invariant: the first i of both arrays are filled, and `floor` is the last x. Assumes nothing.
use Prim.Native.Nat.{ℕ, suc}
use mathlib.Core.List.{List}
use mathlib.Core.Path.{◌≡◌}
use lib.ListN.{get_or}
use lib.Ieee.{Float}
use Rattle.floatlaws.specs.Numbers.{f32_1}
use Rattle.floatlaws.specs.Extrema.{clamp_of}
use Rattle.shape.specs.declared.sorting.Point.{Point}
use Rattle.points.specs.Modulation.{moved_of, placed_of}
use Rattle.shape.specs.Points.{no_point}
use Rattle.shape.specs.Shapes.{floor_at, y_at, modulated_of}
use Rattle.shape.proofs.Shape.modulated.Given as goal

-- the next x, as its calls give it
pub next_x : (points : List Point) (buses : List Float) (i : ℕ) (floor x r : Float) → floor ≡ floor_at points buses i
    → x ≡ moved_of (get_or points i no_point).x (get_or points i no_point).x_mod buses → r ≡ clamp_of x floor f32_1 → r ≡ floor_at points buses (suc i)
unfolding floor_at
next_x points buses i floor x r a b e = rw (e, b, a)

pub next_y : (points : List Point) (buses : List Float) (i : ℕ) (r : Float) → r ≡ placed_of (get_or points i no_point).y (get_or points i no_point).y_mod buses → r ≡ y_at points buses i
unfolding y_at
next_y points buses i r e = e

abbrev pub invariant-loop-i : goal.invariant-loop-i
invariant-loop-i l = let at = modulated_of l.self.points l.i l.buses in
    (l.xs ≡ at.xs) × (l.ys ≡ at.ys) × (l.floor ≡ floor_at l.self.points l.buses l.i)
