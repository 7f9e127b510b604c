-- Paths as kept: fit to be written where questions 1, 2 and 11 were passed, and unchanged where they were read. Assumes nothing.
use Prim.Native.Nat.{ℕ, ◌<◌, min}
use mathlib.Core.Path.{◌≡◌, refl, sym, ap, ◌∙◌, subst, subst₂}
use mathlib.Core.Bool.{Bool, true, ◌&&◌}
use mathlib.Core.List.{List, map}
use native.Mathlib.Omega.{arith}
use lib.ListN.{length, take, get_or, length-map, get_or-append}
use lib.Seq.{take_at, get_or-take}
use lib.Ieee.{Float, le}
use lib.Ieee.Scale.{finite}
use Rattle.floatlaws.specs.Numbers.{f32_0, f32_1, f32_minus1}
use Rattle.floatlaws.specs.Multiples.{is_multiple}
use Rattle.listlaws.specs.Tables.{tabulate, padded}
use Rattle.listlaws.proofs.Tabulation.{length_tabulate, get_d_tabulate, get_or_padded}
use Rattle.leg.specs.Paper.{on_paper}
use Rattle.path.specs.declared.PathPoint.{PathPoint}
use Rattle.path.specs.Paths as Paths
use Rattle.path.specs.Paths.{no_path_point, clamped_path_point, clamped_path, path_of}
use Rattle.codes.specs.declared.PathPointCodes.{PathPointCodes}
use Rattle.codes.specs.declared.PathCodes.{PathCodes}
use Rattle.curves.specs.Given.{mod_of, no_path_point_codes, path_point_of, given_path_points, given_path}
use Rattle.questions.specs.Tests.{every_kept, mod_finite, path_point_known, path_point_finite, path_point_on_paper}
use Rattle.questions.proofs.Laws.{and_true, three, five}
use Rattle.fields.proofs.Trips.{◌with◌}
use Rattle.codes.specs.Blanks.{blank_path_point}
use Rattle.record.specs.Reading.{in_unit}
use Rattle.record.specs.Kept.{codes_of_path_point, kept_path}
use Rattle.record.specs.Promises.{PathPointTyped, PathTyped}
use Rattle.record.proofs.Lists.{get_d_map, get_or_inside, map_padded, map_filled}
use Rattle.record.proofs.Agreements.{PathPointOk, PathPointsOk, PathOk, finite_no_nan}
use Rattle.record.proofs.Tests.{both, every_of, inside, unit_in, bend_in, unit_finite, bend_finite, unit_typed, bend_typed}
use Rattle.record.proofs.KeptPoints.{mod_same, mod_ok, mod_known, mod_finite_lem}

-- ---- one point

abbrev pub kept_path_point : PathPointCodes → PathPointCodes
kept_path_point c = codes_of_path_point (clamped_path_point (path_point_of c))

path_point_same : (c : PathPointCodes) → PathPointOk c → in_unit c.x ≡ true → in_unit c.y ≡ true → kept_path_point c ≡ c
unfolding path_point_of clamped_path_point
path_point_same c h in_x in_y d =
    record {
      x = inside f32_0 c.x f32_1 in_x d;
      y = inside f32_0 c.y f32_1 in_y d;
      bend = inside f32_minus1 c.bend f32_1 h.1.1.0.1 d;
      x_mod = mod_same c.x_mod h.1.1.1.0 d;
      y_mod = mod_same c.y_mod h.1.1.1.1 d;
    }

module _ (c : PathPointCodes) (h : path_point_finite c ≡ true) where
  parts : (finite c.x ≡ true) × (finite c.y ≡ true) × (finite c.bend ≡ true) × (mod_finite c.x_mod ≡ true) × (mod_finite c.y_mod ≡ true)
  unfolding path_point_finite
  parts = five (finite c.x) (finite c.y) (finite c.bend) (mod_finite c.x_mod) (mod_finite c.y_mod) h

  path_point_ok : PathPointTyped c → PathPointOk (kept_path_point c)
  unfolding path_point_of clamped_path_point
  path_point_ok typed =
      let (x, y, bend, x_mod, y_mod) = parts in
      (unit_typed c.x typed.x, unit_finite _ (unit_in c.x (finite_no_nan c.x x)))
      with (unit_typed c.y typed.y, unit_finite _ (unit_in c.y (finite_no_nan c.y y)))
      with (bend_typed c.bend typed.bend, bend_in c.bend (finite_no_nan c.bend bend))
      with mod_ok c.x_mod x_mod typed.x_mod
      with mod_ok c.y_mod y_mod typed.y_mod

  pub path_point_finite_lem : path_point_finite (kept_path_point c) ≡ true
  unfolding path_point_of clamped_path_point path_point_finite
  path_point_finite_lem =
      let (x, y, bend, x_mod, y_mod) = parts in
      both
      (both
      (both (both (unit_finite _ (unit_in c.x (finite_no_nan c.x x))) (unit_finite _ (unit_in c.y (finite_no_nan c.y y)))) (bend_finite _ (bend_in c.bend (finite_no_nan c.bend bend))))
      (mod_finite_lem c.x_mod x_mod))
      (mod_finite_lem c.y_mod y_mod)

pub path_point_known_lem : (c : PathPointCodes) → path_point_known (kept_path_point c) ≡ true
unfolding path_point_of clamped_path_point path_point_known
path_point_known_lem c = both (mod_known (mod_of c.x_mod)) (mod_known (mod_of c.y_mod))

-- the coordinates of a point in the unit square are kept
pub place_kept : (c : PathPointCodes) → in_unit c.x ≡ true → in_unit c.y ≡ true → ((kept_path_point c).x ≡ c.x) × ((kept_path_point c).y ≡ c.y)
unfolding path_point_of clamped_path_point
place_kept c in_x in_y = (inside f32_0 c.x f32_1 in_x, inside f32_0 c.y f32_1 in_y)

-- "within 0 to 1"
within : (x : Float) → on_paper x ≡ true → in_unit x ≡ true
unfolding on_paper
within x h = let (_, from, to) = three (is_multiple 4096 x) (le f32_0 x) (le x f32_1) h in both from to

in_place : (c : PathPointCodes) → path_point_on_paper c ≡ true → (in_unit c.x ≡ true) × (in_unit c.y ≡ true)
in_place c h = let (x, y) = and_true (on_paper c.x) (on_paper c.y) h in (within c.x x, within c.y y)

pub paper_kept : (c : PathPointCodes) → path_point_on_paper c ≡ true → path_point_on_paper (kept_path_point c) ≡ true
paper_kept c h =
    let (in_x, in_y) = in_place c h in
    let (x, y) = place_kept c in_x in_y in
    subst₂ (λ (a b : Float). (on_paper a && on_paper b) ≡ true) (sym x) (sym y) h

-- ---- the points of a path

-- how many are kept
abbrev few : PathCodes → ℕ
few c = min c.count 64

-- the points as they are handed to the clamp, and as it leaves them
abbrev given : PathCodes → List PathPoint
given c = given_path_points c.points (few c)

abbrev clamped_at : PathCodes → ℕ → PathPoint
clamped_at c k = clamped_path_point (get_or (given c) k no_path_point)

abbrev pub kept_path_points : PathCodes → List PathPointCodes
kept_path_points c = map codes_of_path_point (tabulate (clamped_at c) (few c))

module _ (c : PathCodes) where
  abbrev at : ℕ → PathPointCodes
  at k = get_or c.points k no_path_point_codes

  clamped_at_lem : (k : ℕ) → k < few c → codes_of_path_point (clamped_at c k) ≡ kept_path_point (at k)
  unfolding given_path_points
  clamped_at_lem k h = ap (λ (p : PathPoint). codes_of_path_point (clamped_path_point p)) (get_or_padded (λ i. path_point_of (at i)) 64 Paths.blank_path_point (few c) k no_path_point h)

  pub path_count : (kept_path c).count ≡ min c.count 64
  unfolding kept_path given_path path_of
  path_count = refl

  pub path_length : length (kept_path_points c) ≡ min c.count 64
  path_length = length-map (tabulate (clamped_at c) (few c)) codes_of_path_point ∙ length_tabulate (clamped_at c) (few c)

  path_array : (kept_path c).points ≡ padded 64 blank_path_point (kept_path_points c)
  unfolding kept_path given_path path_of clamped_path
  path_array = map_padded codes_of_path_point 64 Paths.blank_path_point (tabulate (clamped_at c) (few c))

  -- the points that count are the clamped ones
  pub path_front : take (kept_path c).count (kept_path c).points ≡ kept_path_points c
  path_front = ap (λ (n : ℕ). take n (kept_path c).points) path_count ∙ ap (take (few c)) path_array ∙ take_at (kept_path_points c) _ (few c) path_length

  path_at : (d : PathPointCodes) (k : ℕ) → k < few c → get_or (kept_path_points c) k d ≡ kept_path_point (at k)
  path_at d k h =
      get_d_map codes_of_path_point (tabulate (clamped_at c) (few c)) k no_path_point d (rw (length_tabulate (clamped_at c) (few c)) h)
      ∙ ap codes_of_path_point (get_d_tabulate (clamped_at c) (few c) k no_path_point h)
      ∙ clamped_at_lem k h

  -- a test of every kept point
  pub path_test : (t : PathPointCodes → Bool) → ((k : ℕ) → k < min c.count 64 → t (kept_path_point (at k)) ≡ true)
      → every_kept t no_path_point_codes (kept_path c).points (kept_path c).count ≡ true
  unfolding every_kept
  path_test t each =
      every_of _ _
      (λ k h.
      let r : k < few c = omega (arith, path_count) in
      let is =
      ap (λ (l : List PathPointCodes). get_or l k no_path_point_codes) path_array ∙ get_or-append (kept_path_points c) _ no_path_point_codes k (omega (arith, path_length))
      ∙ path_at no_path_point_codes k r in
      subst (λ (p : PathPointCodes). t p ≡ true) (sym is) (each k r))

  pub path_ok : ((k : ℕ) → k < min c.count 64 → path_point_finite (at k) ≡ true) → PathTyped c → c.closed < 2 → PathOk (kept_path c)
  unfolding kept_path
  path_ok finite_all typed closed =
      let ok : PathPointsOk (few c) (kept_path_points c) =
      (path_length, λ k h. subst PathPointOk (sym (path_at blank_path_point k h)) (path_point_ok (at k) (finite_all k h) (typed k h))) in (
        ap (padded 64 blank_path_point) path_front ∙ sym path_array,
        omega (arith, path_count) with closed with subst₂ PathPointsOk (sym path_count) (sym path_front) ok,
      )

  pub path_same : PathOk c → ((k : ℕ) → k < min c.count 64 → path_point_on_paper (at k) ≡ true) → kept_path c ≡ c
  unfolding kept_path
  path_same ok is_on_paper d = record { points = (path_array ∙ ap (padded 64 blank_path_point) points_same ∙ ok.0) d; count = (path_count ∙ all_kept) d; closed = c.closed }
    where
      all_kept : few c ≡ c.count
      all_kept = omega (arith, ok.1.0)

      size : length (take c.count c.points) ≡ few c
      size = omega (arith, ok.1.0, ok.1.1.1.0)

      read_at : (k : ℕ) → k < few c → get_or (take c.count c.points) k blank_path_point ≡ at k
      read_at k h =
          get_or_inside (take c.count c.points) k blank_path_point no_path_point_codes (omega (arith, size)) ∙ get_or-take c.count c.points k no_path_point_codes (omega arith)

      same_at : (k : ℕ) → k < few c → codes_of_path_point (clamped_at c k) ≡ get_or (take c.count c.points) k blank_path_point
      same_at k h =
          let (in_x, in_y) = in_place (at k) (is_on_paper k h) in
          clamped_at_lem k h ∙ path_point_same (at k) (subst PathPointOk (read_at k h) (ok.1.1.1.1 k (omega arith))) in_x in_y ∙ sym (read_at k h)

      points_same : kept_path_points c ≡ take c.count c.points
      points_same = map_filled codes_of_path_point (clamped_at c) blank_path_point (few c) (take c.count c.points) size same_at
