-- Shapes as kept: fit to be written where questions 1, 2 and 4 were passed, and unchanged where they were read. Assumes nothing.
use Rattle.std.specs.Prelude.{Option, None, Some}
use Prim.Native.Nat.{ℕ, zero, suc, ◌-◌, ◌≤◌, ◌<◌, min}
use mathlib.Core.Path.{◌≡◌, refl, sym, ap, ◌∙◌, subst, subst₂}
use mathlib.Core.Bool.{Bool, true, false, not, cond, true≢false, false≢true}
use mathlib.Core.List.{List, map}
use native.Mathlib.Nat.{le_refl}
use native.Mathlib.Omega.{arith}
use borrow.Author.Tests.{eqb-true, eqb-false}
use lib.Dec.{T, eqb, ltb}
use lib.ListN.{length, take, get_or, replicate, length-map, length-append, get_or-append}
use lib.Seq.{take_at, take-suc, take-length, drop-length, get_or-take, length-take-le}
use lib.Ieee.{Float, le}
use lib.Ieee.Bits.{of_bits-fits}
use lib.Ieee.Scale.{finite}
use Rattle.floatlaws.specs.Numbers.{f32_0, f32_1, f32_minus1}
use Rattle.floatlaws.proofs.Tests.{yes_so}
use Rattle.floatlaws.proofs.Order.{le_not_lt}
use Rattle.listlaws.specs.Tables.{tabulate, padded, inserted}
use Rattle.listlaws.proofs.LastWhere.{back, last_found, last_none}
use Rattle.listlaws.proofs.Tabulation.{length_tabulate, get_or_padded}
use Rattle.points.specs.declared.PointMod.{PointMod}
use Rattle.bend.specs.Grid.{clamped_curve}
use Rattle.shape.specs.declared.sorting.Point.{Point}
use Rattle.shape.specs.Points.{blank, no_point, clamped_point, slot_of, insert_point, sorted_points, sorted_array}
use Rattle.shape.specs.Shapes.{shape_of}
use Rattle.shape.proofs.Slots.{length_sorted}
use Rattle.shape.proofs.Sorted.{sorted_all, sorted_ascends}
use Rattle.codes.specs.declared.ModCodes.{ModCodes}
use Rattle.codes.specs.declared.PointCodes.{PointCodes}
use Rattle.codes.specs.declared.ShapeCodes.{ShapeCodes}
use Rattle.curves.specs.Given.{is_yes, mod_of, no_point_codes, point_of, given_points, given_shape}
use Rattle.questions.specs.Tests.{every_kept, mod_finite, point_known, point_finite}
use Rattle.questions.proofs.Laws.{and_true, five}
use Rattle.fields.proofs.Trips.{◌with◌, NoNan}
use Rattle.codes.specs.Blanks.{blank_point}
use Rattle.record.specs.Reading.{in_unit, in_bend, last_x}
use Rattle.record.specs.Kept.{codes_of_mod, codes_of_point, kept_shape}
use Rattle.record.specs.Promises.{ModTyped, PointTyped, ShapeTyped}
use Rattle.record.proofs.Lists.{get_d_map, get_or_inside, map_padded, map_filled}
use Rattle.record.proofs.Agreements.{ModOk, PointOk, LoopbackOk, PointsOk, ShapeOk, finite_no_nan}
use Rattle.record.proofs.KeptSettings.{loopback_same}
use Rattle.record.proofs.Tests.{says, both, every_of, inside, unit_in, bend_in, unit_finite, bend_finite, unit_typed, bend_typed}

-- ---- modulations

-- what the codes of a modulation that was handed in are
abbrev pub kept_mod : ModCodes → ModCodes
kept_mod c = codes_of_mod (mod_of c)

pub mod_same : (c : ModCodes) → ModOk c → kept_mod c ≡ c
unfolding mod_of
mod_same c h = by_code (eqb c.code 1) refl h
  where
    by_code : (t : Bool) → eqb c.code 1 ≡ t → ModOk c → codes_of_mod (cond t (Some (record { bus = c.bus; depth = c.depth })) None) ≡ c
    by_code true e h = λ d. record { code = sym (eqb-true c.code 1 e) d; bus = c.bus; depth = c.depth }
    by_code false e h =
        let other = eqb-false c.code 1 e in
        let code : 0 ≡ c.code = omega (arith, h.0) in
        λ d. record { code = code d; bus = sym (h.1.0.absent e) d; depth = sym (h.1.1.absent e) d }

pub mod_ok : (c : ModCodes) → mod_finite c ≡ true → ModTyped c → ModOk (kept_mod c)
unfolding mod_of
mod_ok c finite_depth typed = by_code (eqb c.code 1) refl finite_depth
  where
    by_code : (t : Bool) → eqb c.code 1 ≡ t → cond t (finite c.depth) true ≡ true → ModOk (codes_of_mod (cond t (Some (record { bus = c.bus; depth = c.depth })) None))
    by_code true e h = omega arith with record { there = λ _. typed.bus; absent = λ e'. absurd (true≢false e') } with record { there = λ _. (typed.depth, h); absent = λ e'. absurd (true≢false e') }
    by_code false e h = omega arith with record { there = λ e'. absurd (false≢true e'); absent = λ _. refl } with record { there = λ e'. absurd (false≢true e'); absent = λ _. refl }

pub mod_known : (m : Option PointMod) → ltb (codes_of_mod m).code 2 ≡ true
mod_known None = refl
mod_known (Some m) = refl

pub mod_finite_lem : (c : ModCodes) → mod_finite c ≡ true → mod_finite (kept_mod c) ≡ true
unfolding mod_of
mod_finite_lem c h = by_code (eqb c.code 1) h
  where
    by_code : (t : Bool) → cond t (finite c.depth) true ≡ true → mod_finite (codes_of_mod (cond t (Some (record { bus = c.bus; depth = c.depth })) None)) ≡ true
    by_code true h = h
    by_code false h = refl

pub mod_typed : (c : ModCodes) → ModTyped c → ModTyped (kept_mod c)
unfolding mod_of
mod_typed c typed = by_code (eqb c.code 1)
  where
    by_code : (t : Bool) → ModTyped (codes_of_mod (cond t (Some (record { bus = c.bus; depth = c.depth })) None))
    by_code true = record { bus = typed.bus; depth = typed.depth }
    by_code false = record { bus = omega arith; depth = of_bits-fits _ 0 }

-- ---- the sort leaves points that ascend as they are

module _ (l : List Point) where
  abbrev Ascends : ℕ → Type 0
  Ascends n = (k : ℕ) → suc k < n → T (le (get_or l k no_point).x (get_or l (suc k) no_point).x)

  -- the last of some points goes behind those before it
  slot_last : (n : ℕ) → n < length l → Ascends (suc n) → slot_of (take n l) (length (take n l)) (get_or l n no_point) ≡ length (take n l)
  unfolding slot_of
  slot_last zero h up = last_none _ 0 (omega arith)
  slot_last (suc m) h up =
      let size : length (take (suc m) l) ≡ suc m = length-take-le (suc m) l (omega arith) in
      let before : get_or (take (suc m) l) m no_point ≡ get_or l m no_point = get_or-take (suc m) l m no_point (omega arith) in
      let stays = ap not (le_not_lt (get_or l (suc m) no_point).x (get_or l m no_point).x (up m (omega arith))) in
      rw size (last_found _ (suc m) (omega arith) (rw (back m, before) stays))

  insert_last : (n : ℕ) → n < length l → Ascends (suc n) → insert_point (take n l) (get_or l n no_point) ≡ take (suc n) l
  unfolding insert_point inserted
  insert_last n h up = rw (slot_last n h up, take-length, drop-length) (sym (take-suc l n no_point h))

  sorted_same : (n : ℕ) → n ≤ length l → ((k : ℕ) → k < n → clamped_point (get_or l k no_point) ≡ get_or l k no_point) → Ascends n → sorted_points l n ≡ take n l
  unfolding sorted_points
  sorted_same zero h clamped up = refl
  sorted_same (suc n) h clamped up =
      rw (sorted_same n (omega arith) (λ k p. clamped k (omega arith)) (λ k p. up k (omega arith)), clamped n (le_refl (suc n))) (insert_last n h up)

-- ---- a point that was read

step_same : (n : ℕ) → n < 2 → cond (eqb n 1) 1 0 ≡ n
step_same zero h = refl
step_same (suc zero) h = refl
step_same (suc (suc n)) h = let z : ⊥ = omega arith in absurd z

codes_same : (before : Float) (c : PointCodes) → PointOk before c → codes_of_point (point_of c) ≡ c
unfolding point_of
codes_same before c h d =
    record {
      x = c.x;
      y = c.y;
      curve = c.curve;
      step = step_same c.step h.1.1.1.0 d;
      x_mod = mod_same c.x_mod h.1.1.1.1.0 d;
      y_mod = mod_same c.y_mod h.1.1.1.1.1 d;
    }

clamp_same : (before : Float) (c : PointCodes) → PointOk before c → clamped_point (point_of c) ≡ point_of c
unfolding point_of clamped_point
clamp_same before c h d =
    record {
      x = inside f32_0 c.x f32_1 (and_true (in_unit c.x) (le before c.x) h.0.1).0 d;
      y = inside f32_0 c.y f32_1 h.1.0.1 d;
      curve = inside f32_minus1 c.curve f32_1 h.1.1.0.1 d;
      step = is_yes c.step;
      x_mod = mod_of c.x_mod;
      y_mod = mod_of c.y_mod;
    }

-- the x that the next point goes on from
pub last_x_lem : (l : List PointCodes) (j : ℕ) → suc j ≤ length l → last_x (take (suc j) l) ≡ (get_or l j blank_point).x
last_x_lem l j h =
    let size : length (take (suc j) l) ≡ suc j = length-take-le (suc j) l h in
    ap (λ (n : ℕ). (get_or (take (suc j) l) n blank_point).x) (ap (λ (n : ℕ). n - 1) size ∙ back j) ∙ ap (λ (c : PointCodes). c.x) (get_or-take (suc j) l j blank_point (omega arith))

-- ---- points that were handed in

-- a point as it is kept, but for its place among the others
abbrev pub kept_point : PointCodes → PointCodes
kept_point c = codes_of_point (clamped_point (point_of c))

-- a point that may be written after those of a list whose last x is not above its own
record Good (c : PointCodes) : Type 0 where
  x : in_unit c.x ≡ true
  y : in_unit c.y ≡ true
  curve : in_bend c.curve ≡ true
  step : c.step < 2
  x_mod : ModOk c.x_mod
  y_mod : ModOk c.y_mod
  typed : PointTyped c

step_small : (t : Bool) → cond t 1 0 < 2
step_small true = omega arith
step_small false = omega arith

good : (c : PointCodes) → point_finite c ≡ true → PointTyped c → Good (kept_point c)
unfolding point_of clamped_point point_finite
good c h typed =
    let (x, y, curve, x_mod, y_mod) = five (finite c.x) (finite c.y) (finite c.curve) (mod_finite c.x_mod) (mod_finite c.y_mod) h in
    record {
      x = unit_in c.x (finite_no_nan c.x x);
      y = unit_in c.y (finite_no_nan c.y y);
      curve = bend_in c.curve (finite_no_nan c.curve curve);
      step = step_small (is_yes c.step);
      x_mod = mod_ok c.x_mod x_mod typed.x_mod;
      y_mod = mod_ok c.y_mod y_mod typed.y_mod;
      typed =
          record {
            x = unit_typed c.x typed.x;
            y = unit_typed c.y typed.y;
            curve = bend_typed c.curve typed.curve;
            x_mod = mod_typed c.x_mod typed.x_mod;
            y_mod = mod_typed c.y_mod typed.y_mod;
          };
    }

-- how many are kept
abbrev few : ShapeCodes → ℕ
few c = min c.count 64

-- the points as they are handed to the sort, and as it leaves them
abbrev given : ShapeCodes → List Point
given c = given_points c.points (few c)

abbrev sorted : ShapeCodes → List Point
sorted c = sorted_points (given c) (few c)

abbrev pub kept_points : ShapeCodes → List PointCodes
kept_points c = map codes_of_point (sorted c)

module _ (c : ShapeCodes) where
  abbrev at : ℕ → PointCodes
  at k = get_or c.points k no_point_codes

  given_at : (k : ℕ) → k < few c → get_or (given c) k no_point ≡ point_of (at k)
  unfolding given_points
  given_at k h = get_or_padded _ 64 blank (few c) k no_point h

  given_front : take (few c) (given c) ≡ tabulate (λ k. point_of (at k)) (few c)
  unfolding given_points
  given_front = take_at (tabulate (λ k. point_of (at k)) (few c)) _ (few c) (length_tabulate _ (few c))

  given_long : few c ≤ length (given c)
  unfolding given_points
  given_long =
      let front = tabulate (λ k. point_of (at k)) (few c) in
      omega (arith, length-append front (replicate (64 - length front) blank), length_tabulate (λ k. point_of (at k)) (few c))

  pub kept_count : (kept_shape c).count ≡ min c.count 64
  unfolding kept_shape given_shape shape_of
  kept_count = refl

  pub kept_length : length (kept_points c) ≡ min c.count 64
  kept_length = length-map (sorted c) codes_of_point ∙ length_sorted (given c) (few c)

  kept_array : (kept_shape c).points ≡ padded 64 blank_point (kept_points c)
  unfolding kept_shape given_shape shape_of sorted_array
  kept_array = map_padded codes_of_point 64 blank (sorted c)

  -- the points that count are the sorted ones
  pub kept_front : take (kept_shape c).count (kept_shape c).points ≡ kept_points c
  kept_front = ap (λ (n : ℕ). take n (kept_shape c).points) kept_count ∙ ap (take (few c)) kept_array ∙ take_at (kept_points c) _ (few c) kept_length

  -- what holds of each kept point, wherever the sort puts it
  kept_all : (P : PointCodes → Type 0) → ((k : ℕ) → k < few c → P (kept_point (at k))) → (d : PointCodes) (k : ℕ) → k < few c → P (get_or (kept_points c) k d)
  kept_all P each d k h =
      let all = sorted_all (given c) (λ q. P (codes_of_point q)) (few c) (λ j r. subst (λ (q : Point). P (codes_of_point (clamped_point q))) (sym (given_at j r)) (each j r)) in
      subst P (sym (get_d_map codes_of_point (sorted c) k no_point d (rw (length_sorted (given c) (few c)) h))) (all k h)

  -- a test of every kept point
  pub kept_test : (t : PointCodes → Bool) → ((k : ℕ) → k < min c.count 64 → t (kept_point (at k)) ≡ true) → every_kept t no_point_codes (kept_shape c).points (kept_shape c).count ≡ true
  unfolding every_kept
  kept_test t each =
      every_of _ _
      (λ k h.
      let r : k < few c = omega (arith, kept_count) in
      let is = ap (λ (l : List PointCodes). get_or l k no_point_codes) kept_array ∙ get_or-append (kept_points c) _ no_point_codes k (omega (arith, kept_length)) in
      subst (λ (p : PointCodes). t p ≡ true) (sym is) (kept_all (λ p. t p ≡ true) each no_point_codes k r))

module _ (c : ShapeCodes) (finite_all : (k : ℕ) → k < min c.count 64 → point_finite (at c k) ≡ true) (typed : ShapeTyped c) where
  all_good : (k : ℕ) → k < few c → Good (get_or (kept_points c) k blank_point)
  all_good = kept_all c Good (λ k h. good (at c k) (finite_all k h) (typed k h)) blank_point

  kept_ascends : (k : ℕ) → suc k < few c → T (le (get_or (kept_points c) k blank_point).x (get_or (kept_points c) (suc k) blank_point).x)
  kept_ascends k h =
      let numbers : (j : ℕ) → j < few c → NoNan (clamped_point (get_or (given c) j no_point)).x =
      λ j r. subst (λ (q : Point). NoNan (clamped_point q).x) (sym (given_at c j r)) (finite_no_nan _ (unit_finite _ (good (at c j) (finite_all j r) (typed j r)).x)) in
      let size : length (sorted c) ≡ few c = length_sorted (given c) (few c) in
      rw (get_d_map codes_of_point (sorted c) k no_point blank_point (omega arith), get_d_map codes_of_point (sorted c) (suc k) no_point blank_point (omega arith))
      (sorted_ascends (given c) (few c) numbers k (suc k) (omega arith) h)

  point_ok : (before : Float) (p : PointCodes) → T (le before p.x) → Good p → PointOk before p
  point_ok before p h g =
      (g.typed.x, both g.x (says _ h))
      with (g.typed.y, g.y)
      with (g.typed.curve, g.curve)
      with g.step
      with g.x_mod
      with g.y_mod

  from_last : (k : ℕ) → k < few c → T (le (last_x (take k (kept_points c))) (get_or (kept_points c) k blank_point).x)
  from_last zero h = yes_so (and_true (le f32_0 _) (le _ f32_1) (all_good 0 h).x).0
  from_last (suc k) h = subst (λ (y : Float). T (le y (get_or (kept_points c) (suc k) blank_point).x)) (sym (last_x_lem (kept_points c) k (omega (arith, kept_length c)))) (kept_ascends k h)

  points_ok : PointsOk (few c) (kept_points c)
  points_ok = (kept_length c, λ k h. point_ok (last_x (take k (kept_points c))) _ (from_last k h) (all_good k h))

  pub shape_ok : LoopbackOk (kept_shape c).loopback → ShapeOk (kept_shape c)
  shape_ok loopback = (
    ap (padded 64 blank_point) (kept_front c) ∙ sym (kept_array c),
    omega (arith, kept_count c) with subst₂ PointsOk (sym (kept_count c)) (sym (kept_front c)) points_ok with loopback,
  )

-- ---- points that were read

module _ (c : ShapeCodes) (ok : ShapeOk c) where
  abbrev l : List PointCodes
  l = take c.count c.points

  size : length l ≡ few c
  size = omega (arith, ok.1.0, ok.1.1.0.0)

  read_at : (k : ℕ) → k < few c → get_or l k blank_point ≡ at c k
  read_at k h = get_or_inside l k blank_point no_point_codes (omega (arith, size)) ∙ get_or-take c.count c.points k no_point_codes (omega arith)

  point_read : (k : ℕ) → k < few c → PointOk (last_x (take k l)) (at c k)
  point_read k h = subst (PointOk (last_x (take k l))) (read_at k h) (ok.1.1.0.1 k (omega arith))

  follows : (k : ℕ) → suc k < few c → T (le (at c k).x (at c (suc k)).x)
  follows k h =
      let x = (at c (suc k)).x in
      let last = last_x_lem l k (omega (arith, size)) ∙ ap (λ (p : PointCodes). p.x) (read_at k (omega arith)) in
      subst (λ (y : Float). T (le y x)) last (yes_so (and_true (in_unit x) (le (last_x (take (suc k) l)) x) (point_read (suc k) h).0.1).1)

  points_same : kept_points c ≡ l
  points_same =
      let clamped : (k : ℕ) → k < few c → clamped_point (get_or (given c) k no_point) ≡ get_or (given c) k no_point =
      λ k h. rw (given_at c k h) (clamp_same (last_x (take k l)) (at c k) (point_read k h)) in
      let up : (k : ℕ) → suc k < few c → T (le (get_or (given c) k no_point).x (get_or (given c) (suc k) no_point).x) =
      λ k h. rw (given_at c k (omega arith), given_at c (suc k) h) (unfold point_of in follows k h) in
      ap (map codes_of_point) (sorted_same (given c) (few c) (given_long c) clamped up ∙ given_front c)
      ∙ map_filled codes_of_point (λ k. point_of (at c k)) blank_point (few c) l size (λ k h. codes_same (last_x (take k l)) (at c k) (point_read k h) ∙ sym (read_at k h))

  all_kept : few c ≡ c.count
  all_kept = omega (arith, ok.1.0)

  pub shape_same : kept_shape c ≡ c
  unfolding kept_shape
  shape_same d =
      record {
        points = (kept_array c ∙ ap (padded 64 blank_point) points_same ∙ ok.0) d;
        count = (kept_count c ∙ all_kept) d;
        loopback = loopback_same c.loopback ok.1.1.1 d;
      }

-- ---- the questions of a kept point

pub point_known_lem : (c : PointCodes) → point_known (kept_point c) ≡ true
unfolding point_of clamped_point point_known
point_known_lem c = both (both (by_step (is_yes c.step)) (mod_known (mod_of c.x_mod))) (mod_known (mod_of c.y_mod))
  where
    by_step : (t : Bool) → ltb (cond t 1 0) 2 ≡ true
    by_step true = refl
    by_step false = refl

pub point_finite_lem : (c : PointCodes) → point_finite c ≡ true → point_finite (kept_point c) ≡ true
unfolding point_of clamped_point point_finite
point_finite_lem c h =
    let (x, y, curve, x_mod, y_mod) = five (finite c.x) (finite c.y) (finite c.curve) (mod_finite c.x_mod) (mod_finite c.y_mod) h in
    both
    (both
    (both (both (unit_finite _ (unit_in c.x (finite_no_nan c.x x))) (unit_finite _ (unit_in c.y (finite_no_nan c.y y)))) (bend_finite _ (bend_in c.curve (finite_no_nan c.curve curve))))
    (mod_finite_lem c.x_mod x_mod))
    (mod_finite_lem c.y_mod y_mod)

-- a curve that is clamped is clamped once
pub curve_kept : (c : PointCodes) → point_finite c ≡ true → clamped_curve (kept_point c).curve ≡ clamped_curve c.curve
unfolding point_of clamped_point point_finite
curve_kept c h =
    let (x, y, curve, x_mod, y_mod) = five (finite c.x) (finite c.y) (finite c.curve) (mod_finite c.x_mod) (mod_finite c.y_mod) h in
    inside f32_minus1 (clamped_curve c.curve) f32_1 (bend_in c.curve (finite_no_nan c.curve curve))
