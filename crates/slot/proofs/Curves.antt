-- The curves of a page can be searched, and its loopback point lies from 0 to 1. Of the curves: the default ones, and every accepted path. Assumes nothing.
use Rattle.std.proofs.Common.{ℕ, zero, suc, ◌<◌, min, Bool, T, List, get_or, sym, subst, arith, lit≤, None, Option, Some}
use native.Mathlib.Nat.{min-le_right}
use lib.Ieee.{Float, nan, binary32, fits, of_bits}
use lib.Ieee.Fits.{add-fits, fits_widens}
use Rattle.floatlaws.specs.Numbers.{f32_0, f32_1}
use Rattle.floatlaws.proofs.Extrema.{clamp_fits}
use Rattle.listlaws.proofs.Tabulation.{get_or_padded}
use Rattle.points.specs.Modulation.{FiniteBuses}
use Rattle.points.proofs.Offsets.{moved_number}
use Rattle.shape_segments.specs.Segments.{empty_segment, contains_of}
use Rattle.shape_segments.proofs.KeptSegment as shapes
use Rattle.shape.specs.declared.sorting.Point.{Point}
use Rattle.shape.specs.Shapes.{default_shape, floor_at, modulated_of, NumbersX}
use Rattle.shape.proofs.Modulation.{modulated_ascends, modulated_x}
use Rattle.path.specs.declared.PathPoint.{PathPoint}
use Rattle.path.specs.Paths.{path_of, default_path}
use Rattle.path.proofs.PathLegs.{legs_in}
use Rattle.path_segments.specs.Segments.{empty_path, path_contains}
use Rattle.path_segments.proofs.AcceptedPath.{accepted_ascends}
use Rattle.path_segments.proofs.KeptPath as paths
use Rattle.reach.specs.Bounds.{LoopIn}
use Rattle.settings.specs.declared.choices.LfoType.{LfoType}
use Rattle.settings.specs.declared.choices.LfoType.TheVariants as LfoType
use Rattle.voice.specs.Curve.{Curve, void_kept, Searchable, KeptFor}
use Rattle.slot.specs.Moved.{shape_lists, lists_of, LoopbackIn, loop_at, loop_of, moved_curve}
use Rattle.slot.specs.Slot.{Lfo, slot_curve, ShapeIn, PathIn, LfoIn}

-- ---- a moved point is an f32 from 0 to 1

ends_fit : T (fits binary32 f32_0) × T (fits binary32 f32_1)
unfolding of_bits fits
ends_fit = (tt, tt)

floor_fits : (points : List Point) (buses : List Float) (i : ℕ) → T (fits binary32 (floor_at points buses i))
unfolding floor_at
floor_fits points buses zero = ends_fit.0
floor_fits points buses (suc i) = clamp_fits binary32 _ _ _ (add-fits binary32 _ _) (floor_fits points buses i) ends_fit.1

point_in : (points : List Point) (buses : List Float) (n : ℕ) → NumbersX points buses n → (i : ℕ) → i < n → LoopIn (Some (get_or (modulated_of points n buses).xs i nan))
unfolding modulated_of of_bits
point_in points buses n number i h = (
  fits_widens _ (subst (λ (x : Float). T (fits binary32 x)) (sym (get_or_padded (λ k. floor_at points buses (suc k)) 64 f32_0 n i nan h)) (floor_fits points buses (suc i))),
  modulated_x points buses n number i h,
)

-- ---- of a slot

module _ {frames : ℕ} (lfo : Lfo) (i : LfoIn frames lfo) where
  -- at its own buses
  numbers : NumbersX lfo.shape.points lfo.buses lfo.shape.len
  numbers = i.shape_in.moves lfo.buses i.buses_in.finite_all

  pub searchable : (kind : LfoType) → Searchable kind (slot_curve kind lfo)
  unfolding Searchable moved_curve lists_of shape_lists
  searchable LfoType.Drawn = (i.shape_in.short, modulated_ascends lfo.shape.points lfo.buses lfo.shape.len numbers)
  searchable LfoType.Path = (i.path_in.short, i.path_in.times_up)
  searchable LfoType.Lorenz = tt
  searchable LfoType.Rossler = tt
  searchable LfoType.SampleAndHold = tt

  pub loop_in : (kind : LfoType) → LoopIn (slot_curve kind lfo).from
  unfolding moved_curve lists_of shape_lists loop_of
  loop_in LfoType.Drawn = go lfo.shape.loopback i.shape_in.loopback_is_in
    where
      go : (l : Option ℕ) → LoopbackIn l lfo.shape.len → LoopIn (loop_at l (modulated_of lfo.shape.points lfo.shape.len lfo.buses).xs)
      go None h = tt
      go (Some k) h = point_in lfo.shape.points lfo.buses lfo.shape.len numbers k h
  loop_in LfoType.Path = tt
  loop_in LfoType.Lorenz = tt
  loop_in LfoType.Rossler = tt
  loop_in LfoType.SampleAndHold = tt

-- ---- no segment kept

pub void_for : (kind : LfoType) (q : Curve) → KeptFor kind q void_kept
unfolding KeptFor
void_for LfoType.Drawn q = λ (p : Float) (h : T (contains_of empty_segment p)). absurd (shapes.empty_holds_nothing p h)
void_for LfoType.Path q = λ (p : Float) (h : T (path_contains empty_path p)). absurd (paths.empty_holds_nothing p h)
void_for LfoType.Lorenz q = tt
void_for LfoType.Rossler q = tt
void_for LfoType.SampleAndHold q = tt

-- ---- accepted paths, and the default curves

pub accepted_path : (points : List PathPoint) (count : ℕ) (closed : Bool) → PathIn (path_of points count closed)
unfolding path_of
accepted_path points count closed =
    record { short = min-le_right count 64; times_up = accepted_ascends (min count 64) closed (min-le_right count 64) _ (legs_in _ _ _) }

pub default_path_lem : PathIn default_path
unfolding default_path
default_path_lem = accepted_path _ 4 _

default_moves : (buses : List Float) → FiniteBuses buses → NumbersX default_shape.points buses default_shape.len
unfolding default_shape of_bits
default_moves buses values zero h = moved_number _ _ buses tt tt values
default_moves buses values (suc zero) h = moved_number _ _ buses tt tt values
default_moves buses values (suc (suc zero)) h = moved_number _ _ buses tt tt values
default_moves buses values (suc (suc (suc k))) h = let z : ⊥ = omega arith in absurd z

pub default_shape_lem : ShapeIn default_shape
default_shape_lem = record { short = unfold default_shape in lit≤ tt; loopback_is_in = unfold default_shape in tt; moves = default_moves }
