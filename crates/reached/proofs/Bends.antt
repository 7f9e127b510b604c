-- Every curve that a player stores is on the grid, since question 10 was put to each that was handed in; so its strength is near. Assumes nothing.
use Prim.Native.Nat.{ℕ, zero, suc, ◌<◌, min}
use mathlib.Core.Path.{◌≡◌, refl, sym, subst}
use mathlib.Core.Bool.{true}
use native.Mathlib.Omega.{arith}
use lib.Dec.{T}
use lib.ListN.{get_or, get_or-append}
use lib.Ieee.{Float, nan, lt, neg, of_bits}
use Rattle.floatlaws.specs.Numbers.{f32_0}
use Rattle.floatlaws.specs.Extrema.{clamp_of}
use Rattle.floatlaws.specs.Multiples.{is_multiple}
use Rattle.floatlaws.proofs.Tests.{yes_so}
use Rattle.floatlaws.proofs.Multiples.{multiple_rule}
use Rattle.listlaws.proofs.Tabulation.{get_or_padded}
use Rattle.bend.specs.Grid.{clamped_curve, on_grid}
use Rattle.bend.specs.Strengths.{strength_of}
use Rattle.bend.proofs.Accuracy.{strength_rule}
use Rattle.bend.proofs.Grid.{clamped_again}
use Rattle.shape.specs.declared.sorting.Point.{Point}
use Rattle.shape.specs.declared.Shape.{Shape}
use Rattle.shape.specs.Points.{no_point, blank, clamped_point, sorted_points, sorted_array}
use Rattle.shape.specs.Shapes.{shape_of, default_shape, curves_of}
use Rattle.shape.proofs.Slots.{length_sorted}
use Rattle.shape.proofs.Sorted.{sorted_all}
use Rattle.path.specs.declared.Path.{Path}
use Rattle.slot.specs.Moved.{shape_lists}
use Rattle.codes.specs.declared.ShapeCodes.{ShapeCodes}
use Rattle.curves.specs.Given.{no_point_codes, point_of, given_points, given_shape}
use Rattle.questions.proofs.Facts.{ShapeAccepted}
use Rattle.player.specs.declared.Player.{Player}
use Rattle.reached.specs.Traces.{History}
use Rattle.reached.specs.Bends.{Bends, StrengthsNear}
use Rattle.reached.proofs.Stored.{history_stores}

-- ---- a shape whose curves are clamped, and on the grid

abbrev PointOnGrid : Point → Type 0
PointOnGrid q = (q.curve ≡ clamped_curve q.curve) × T (on_grid q.curve)

abbrev ShapeOnGrid : Shape → Type 0
ShapeOnGrid s = (k : ℕ) → k < s.len → PointOnGrid (get_or s.points k no_point)

default_on_grid : ShapeOnGrid default_shape
unfolding default_shape clamp_of is_multiple lt neg of_bits
default_on_grid zero h = (refl, tt)
default_on_grid (suc zero) h = (refl, tt)
default_on_grid (suc (suc zero)) h = (refl, tt)
default_on_grid (suc (suc (suc k))) h = let z : ⊥ = omega arith in absurd z

module _ (c : ShapeCodes) (a : ShapeAccepted true c) where
  abbrev n : ℕ
  n = min c.count 64

  clamped_on_grid : (k : ℕ) → k < n → PointOnGrid (clamped_point (get_or (given_points c.points n) k no_point))
  unfolding given_points point_of clamped_point
  clamped_on_grid k h =
      subst (λ (q : Point). PointOnGrid (clamped_point q)) (sym (get_or_padded _ 64 blank n k no_point h))
      (sym (clamped_again (get_or c.points k no_point_codes).curve), yes_so (a.points_on_grid k h))

  given_on_grid : ShapeOnGrid (given_shape c)
  unfolding given_shape shape_of sorted_array
  given_on_grid k h =
      let given = given_points c.points n in
      subst PointOnGrid (sym (get_or-append (sorted_points given n) _ no_point k (omega (arith, length_sorted given n)))) (sorted_all given PointOnGrid n clamped_on_grid k h)

-- ---- a player

history_on_grid : (p : Player) → History p → ShapeOnGrid p.page.shape
history_on_grid =
    history_stores (λ (s : Shape) (w : Path). ShapeOnGrid s) default_on_grid (λ s w c a g. given_on_grid c a)
    (λ s w c a g. g)

-- ---- the strengths

near_at : (curve : Float) → curve ≡ clamped_curve curve → T (on_grid curve) → Bends curve (strength_of curve)
near_at curve e t =
    let v = (multiple_rule 1024 curve).0 t in
    record { s = v.0; n = v.1; curve_is = v.2; near = strength_rule curve v.0 v.1 (rw (← e) v.2) }

pub strengths_near : StrengthsNear
unfolding shape_lists curves_of
strengths_near p h k l =
    let d = history_on_grid p h k l in
    subst (λ (x : Float). Bends (get_or p.page.shape.points k no_point).curve x) (sym (get_or_padded _ 64 f32_0 p.page.shape.len k nan l)) (near_at _ d.0 d.1)
