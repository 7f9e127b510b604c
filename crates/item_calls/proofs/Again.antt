-- What is kept of an item makes the same player: settings, shapes and paths of codes that are kept are those of the codes. Assumes nothing.
use Rattle.std.specs.Prelude.{None, Some, Option}
use Prim.Native.Nat.{ℕ, zero, suc, min}
use mathlib.Core.Path.{◌≡◌, refl, sym, ap, ◌∙◌}
use mathlib.Core.Bool.{Bool, true, false, cond}
use mathlib.Core.List.{List, [], ◌∷◌, map}
use native.Mathlib.Omega.{arith}
use borrow.Author.Tests.{ltb-true}
use lib.Dec.{eqb}
use lib.Ieee.{Float}
use Rattle.floatlaws.specs.Numbers.{f32_0}
use Rattle.points.specs.declared.PointMod.{PointMod}
use Rattle.shape.specs.declared.sorting.Point.{Point}
use Rattle.shape.specs.Shapes.{within, shape_of}
use Rattle.path_segments.specs.Times.{segments_of, times_of}
use Rattle.path.specs.declared.PathPoint.{PathPoint}
use Rattle.path.specs.declared.Path.{Path}
use Rattle.path.specs.Paths.{legs_of, path_of}
use Rattle.codes.specs.declared.RateCodes.{RateCodes}
use Rattle.codes.specs.declared.SpanCodes.{SpanCodes}
use Rattle.codes.specs.declared.SmoothCodes.{SmoothCodes}
use Rattle.codes.specs.declared.SettingsCodes.{SettingsCodes}
use Rattle.codes.specs.declared.LoopbackCodes.{LoopbackCodes}
use Rattle.codes.specs.declared.ShapeCodes.{ShapeCodes}
use Rattle.codes.specs.declared.PathCodes.{PathCodes}
use Rattle.codes.specs.declared.ItemCodes.{ItemCodes}
use Rattle.settings.specs.Times.{rate_at, span_at}
use Rattle.settings.specs.Codes.{smooth_at, settings_at}
use Rattle.curves.specs.Given.{is_yes, mod_of, point_of, loopback_of, given_shape, path_point_of, given_path}
use Rattle.questions.specs.Questions.{first_no, settings_questions}
use Rattle.questions.specs.Tests.{shape_known, loopback_in, path_on_paper}
use Rattle.calls.specs.State.{new_state}
use Rattle.calls.specs.Calls.{by_settings, no_player, made}
use Rattle.record.specs.Kept.{kept_rate, kept_span, kept_smooth, kept_settings, kept_loopback, codes_of_mod, codes_of_point, kept_shape, codes_of_path_point, kept_path, kept}
use Rattle.record.specs.Promises.{Typed}
use Rattle.record.proofs.Agreements.{LoopbackOk}
use Rattle.record.proofs.KeptSettings.{settings_known_lem, settings_finite_lem, smooth_is_in, loopback_ok}
use Rattle.record.proofs.KeptPoints.{shape_ok, shape_same}
use Rattle.record.proofs.KeptPaths.{path_ok, path_same}
use Rattle.record.proofs.Answers.{Passed, keeps, loopback_known, points_finite, closed_known, path_points_finite, points_on_paper}

-- ---- settings

rate_again : (c : RateCodes) → rate_at (kept_rate c) ≡ rate_at c
unfolding kept_rate rate_at
rate_again c = by_code c.code c.division c.feel c.hz c.x10
  where
    by_code : (code division feel : ℕ) (hz : Float) (x10 : ℕ)
        → rate_at
        (record {
          code = code;
          division = cond (eqb code 0) division 0;
          feel = cond (eqb code 0) feel 0;
          hz = cond (eqb code 1) hz f32_0;
          x10 = cond (eqb code 1) x10 0;
        })
        ≡ rate_at (record { code = code; division = division; feel = feel; hz = hz; x10 = x10 })
    by_code zero division feel hz x10 = refl
    by_code (suc zero) division feel hz x10 = refl
    by_code (suc (suc n)) division feel hz x10 = refl

span_again : (c : SpanCodes) → span_at (kept_span c) ≡ span_at c
unfolding kept_span span_at
span_again c = by_code c.code c.division c.seconds
  where
    by_code : (code division : ℕ) (seconds : Float)
        → span_at (record { code = code; division = cond (eqb code 1) division 0; seconds = cond (eqb code 2) seconds f32_0 })
        ≡ span_at (record { code = code; division = division; seconds = seconds })
    by_code zero division seconds = refl
    by_code (suc zero) division seconds = refl
    by_code (suc (suc zero)) division seconds = refl
    by_code (suc (suc (suc n))) division seconds = refl

smooth_again : (c : SmoothCodes) → smooth_at (kept_smooth c) ≡ smooth_at c
unfolding kept_smooth smooth_at
smooth_again c = by_code c.code c.coefficient
  where
    by_code : (code : ℕ) (coefficient : Float)
        → smooth_at (record { code = code; coefficient = cond (eqb code 1) coefficient f32_0 }) ≡ smooth_at (record { code = code; coefficient = coefficient })
    by_code zero coefficient = refl
    by_code (suc zero) coefficient = refl
    by_code (suc (suc n)) coefficient = refl

settings_again : (c : SettingsCodes) → settings_at (kept_settings c) ≡ settings_at c
unfolding kept_settings settings_at
settings_again c = rw (rate_again c.rate, span_again c.fade_in, span_again c.delay, smooth_again c.smooth)

answer_again : (c : SettingsCodes) → first_no (settings_questions (kept_settings c)) ≡ first_no (settings_questions c)
unfolding settings_questions
answer_again c = rw (settings_known_lem c, settings_finite_lem c, smooth_is_in c)

pub made_again : (c : SettingsCodes) (seed : ℕ) → made (kept_settings c) seed ≡ made c seed
unfolding made
made_again c seed d =
    cond (eqb (answer_again c d) 0) (by_settings (no_player seed) (settings_again c d) (λ s. new_state s seed)) (no_player seed)

-- ---- codes of points, and the points again

mod_back : (m : Option PointMod) → mod_of (codes_of_mod m) ≡ m
unfolding mod_of
mod_back None = refl
mod_back (Some m) = refl

yes_back : (t : Bool) → is_yes (cond t 1 0) ≡ t
yes_back true = refl
yes_back false = refl

point_back : (p : Point) → point_of (codes_of_point p) ≡ p
unfolding point_of
point_back p d =
    record { x = p.x; y = p.y; curve = p.curve; step = yes_back p.step d; x_mod = mod_back p.x_mod d; y_mod = mod_back p.y_mod d }

path_point_back : (p : PathPoint) → path_point_of (codes_of_path_point p) ≡ p
unfolding path_point_of
path_point_back p d = record { x = p.x; y = p.y; bend = p.bend; x_mod = mod_back p.x_mod d; y_mod = mod_back p.y_mod d }

module _ {A B : Type 0} (f : A → B) (back : B → A) (same : (a : A) → back (f a) ≡ a) where
  all_back : (l : List A) → map back (map f l) ≡ l
  all_back [] = refl
  all_back (a ∷ l) = λ d. same a d ∷ all_back l d

  -- lists with the same codes are the same
  same_lists : (l r : List A) → map f l ≡ map f r → l ≡ r
  same_lists l r e = sym (all_back l) ∙ ap (map back) e ∙ all_back r

-- ---- shapes and paths

loopback_again : (c : LoopbackCodes) → loopback_of (kept_loopback c) ≡ loopback_of c
unfolding kept_loopback loopback_of
loopback_again c = by_test (eqb c.code 1) c.index
  where
    by_test : (t : Bool) (n : ℕ) → cond t (Some (cond t n 0)) None ≡ cond t (Some n) None
    by_test true n = refl
    by_test false n = refl

loopback_is : (c : ShapeCodes) → (given_shape c).loopback ≡ within (loopback_of c.loopback) (given_shape c).len
unfolding given_shape shape_of
loopback_is c = refl

-- a path is made of its points
unfoldable path_from : List PathPoint → ℕ → Bool → Path
path_from points len closed =
    let n = segments_of len closed in
    record { points = points; len = len; closed = closed; times = times_of (legs_of points len n) n }

path_is : (c : PathCodes) → given_path c ≡ path_from (given_path c).points (given_path c).len (is_yes c.closed)
unfolding given_path path_of path_from
path_is c = refl

shape_loopback : (c : ShapeCodes) → shape_known c ≡ true → loopback_in c ≡ true → LoopbackOk (kept_shape c).loopback
unfolding kept_shape loopback_in
shape_loopback c known below = loopback_ok c.loopback (min c.count 64) (loopback_known c known) below (omega arith)

module _ (i : ItemCodes) (t : Typed i) (p : Passed i) where
  abbrev c : ShapeCodes
  c = i.shape

  shape_twice : kept_shape (kept_shape c) ≡ kept_shape c
  shape_twice = shape_same (kept_shape c) (shape_ok c (points_finite c p.shape_is_finite) t.shape (shape_loopback c p.shape_is_known p.loopback_is_in))

  same_points : (given_shape (kept_shape c)).points ≡ (given_shape c).points
  unfolding kept_shape
  same_points = same_lists codes_of_point point_of point_back _ _ (ap (λ (x : ShapeCodes). x.points) shape_twice)

  same_len : (given_shape (kept_shape c)).len ≡ (given_shape c).len
  unfolding kept_shape
  same_len = ap (λ (x : ShapeCodes). x.count) shape_twice

  same_loopback : loopback_of (kept_shape c).loopback ≡ loopback_of c.loopback
  unfolding kept_shape
  same_loopback = loopback_again c.loopback

  pub shape_again : given_shape (kept_shape c) ≡ given_shape c
  shape_again d =
      record {
        points = same_points d;
        len = same_len d;
        loopback = (loopback_is (kept_shape c) ∙ (λ e. within (same_loopback e) (same_len e)) ∙ sym (loopback_is c)) d;
      }

  abbrev way : PathCodes
  way = i.path

  is_on_paper : path_on_paper (kept_path way) ≡ true
  unfolding kept
  is_on_paper = (keeps i p).is_on_paper

  path_twice : kept_path (kept_path way) ≡ kept_path way
  path_twice =
      path_same (kept_path way)
      (path_ok way (path_points_finite way p.path_is_finite) t.path (ltb-true way.closed 2 (closed_known way p.path_is_known)))
      (points_on_paper (kept_path way) is_on_paper)

  same_path_points : (given_path (kept_path way)).points ≡ (given_path way).points
  unfolding kept_path
  same_path_points = same_lists codes_of_path_point path_point_of path_point_back _ _ (ap (λ (x : PathCodes). x.points) path_twice)

  same_path_len : (given_path (kept_path way)).len ≡ (given_path way).len
  unfolding kept_path
  same_path_len = ap (λ (x : PathCodes). x.count) path_twice

  same_closed : is_yes (kept_path way).closed ≡ is_yes way.closed
  unfolding kept_path
  same_closed = refl

  pub path_again : given_path (kept_path way) ≡ given_path way
  path_again = path_is (kept_path way) ∙ (λ d. path_from (same_path_points d) (same_path_len d) (same_closed d)) ∙ sym (path_is way)
