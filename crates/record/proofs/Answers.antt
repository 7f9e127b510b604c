-- The questions of an item, one by one; of the item as it is kept; and of the calls that it stands for. Assumes nothing.
--     passes, answers     the answer is 0 where each test says yes, and only there
--     write_answer_lem        21 comes where each of them says yes
--     keeps               what is kept passes too
--     settings_accepted, shape_accepted, path_accepted, bus_accepted     so do the calls
use Prim.Native.Nat.{ℕ, suc, ◌<◌, min}
use mathlib.Core.Path.{◌≡◌, refl, ap, ◌∙◌}
use mathlib.Core.Bool.{Bool, true, false, ◌&&◌, cond}
use mathlib.Core.List.{List, [], ◌∷◌}
use borrow.Author.Tests.{lt-ltb, ne_eqb}
use native.Mathlib.Omega.{arith}
use lib.Dec.{eqb, ltb, leb}
use lib.ListN.{length, get_or}
use lib.Ieee.{nan}
use Rattle.bend.specs.Grid.{on_grid}
use Rattle.settings.specs.Codes.{settings_known, transport_known}
use Rattle.codes.specs.declared.ShapeCodes.{ShapeCodes}
use Rattle.codes.specs.declared.PathCodes.{PathCodes}
use Rattle.codes.specs.declared.ItemCodes.{ItemCodes}
use Rattle.curves.specs.Given.{no_point_codes, no_path_point_codes}
use Rattle.questions.specs.Tests.{every_kept, point_known, shape_known, path_point_known, path_known, settings_finite, point_finite, shape_finite, path_point_finite, path_finite, transport_finite, loopback_in, path_point_on_paper, path_on_paper, point_on_grid, shape_on_grid, smooth_in, transport_in}
use Rattle.questions.specs.Questions.{Posed, first_no, settings_questions, shape_questions, path_questions, bus_questions}
use Rattle.questions.proofs.Laws.{and_true, three, five}
use Rattle.questions.proofs.Facts.{passed, every_so}
use Rattle.record.specs.Items.{transport_of}
use Rattle.record.specs.Kept.{kept_shape, kept_path, kept_loopback, kept}
use Rattle.record.specs.Writing.{item_bytes}
use Rattle.record.specs.Records.{write_questions, write_answer}
use Rattle.record.specs.Questions.{buses_finite, item_questions, item_answer}
use Rattle.record.proofs.Tests.{both}
use Rattle.record.proofs.KeptSettings.{settings_known_lem, settings_finite_lem, smooth_is_in, loopback_below_lem}
use Rattle.record.proofs.KeptPoints.{kept_count, kept_test, point_known_lem, point_finite_lem, curve_kept}
use Rattle.record.proofs.KeptPaths.{path_test, path_point_known_lem, path_point_finite_lem, paper_kept}

goes_on : (n : ℕ) (t : Bool) (rest : List Posed) → t ≡ true → first_no rest ≡ 0 → first_no ((n, t) ∷ rest) ≡ 0
unfolding first_no
goes_on n t rest e h = rw e h

none_left : first_no [] ≡ 0
unfolding first_no
none_left = refl

-- every question was answered with yes
pub record Passed (i : ItemCodes) : Type 0 where
  pub settings_are_known : settings_known i.settings ≡ true
  pub shape_is_known : shape_known i.shape ≡ true
  pub path_is_known : path_known i.path ≡ true
  pub transport_is_known : transport_known (transport_of i) ≡ true
  pub settings_are_finite : settings_finite i.settings ≡ true
  pub shape_is_finite : shape_finite i.shape ≡ true
  pub path_is_finite : path_finite i.path ≡ true
  pub buses_are_finite : buses_finite i.buses ≡ true
  pub transport_is_finite : transport_finite (transport_of i) ≡ true
  pub loopback_is_in : loopback_in i.shape ≡ true
  pub is_on_paper : path_on_paper i.path ≡ true
  pub is_on_grid : shape_on_grid i.shape ≡ true
  pub coefficient_in : smooth_in i.settings.smooth ≡ true
  pub transport_is_in : transport_in (transport_of i) ≡ true

pub passes : (i : ItemCodes) → item_answer i ≡ 0 → Passed i
unfolding item_answer item_questions
passes i h =
    let (one, rest) = passed 0 _ _ h in
    let (two, rest) = passed 1 _ _ rest in
    let (four, rest) = passed 3 _ _ rest in
    let (eleven, rest) = passed 10 _ _ rest in
    let (ten, rest) = passed 9 _ _ rest in
    let (of_5, rest) = passed 4 _ _ rest in
    let (of_6, rest) = passed 5 _ _ rest in
    let (curves_known, transport_is_known) = and_true (settings_known i.settings && shape_known i.shape && path_known i.path) (transport_known (transport_of i)) one in
    let known = three (settings_known i.settings) (shape_known i.shape) (path_known i.path) curves_known in
    let all_finite =
    five (settings_finite i.settings) (shape_finite i.shape) (path_finite i.path) (buses_finite i.buses) (transport_finite (transport_of i)) two in
    record {
      settings_are_known = known.0;
      shape_is_known = known.1;
      path_is_known = known.2;
      transport_is_known = transport_is_known;
      settings_are_finite = all_finite.0;
      shape_is_finite = all_finite.1;
      path_is_finite = all_finite.2;
      buses_are_finite = all_finite.3;
      transport_is_finite = all_finite.4;
      loopback_is_in = four;
      is_on_paper = eleven;
      is_on_grid = ten;
      coefficient_in = of_5;
      transport_is_in = of_6;
    }

pub answers : (i : ItemCodes) → Passed i → item_answer i ≡ 0
unfolding item_answer item_questions
answers i p =
    goes_on 1 _ _ (both (both (both p.settings_are_known p.shape_is_known) p.path_is_known) p.transport_is_known)
    (goes_on 2 _ _ (both (both (both (both p.settings_are_finite p.shape_is_finite) p.path_is_finite) p.buses_are_finite) p.transport_is_finite)
    (goes_on 4 _ _ p.loopback_is_in
    (goes_on 11 _ _ p.is_on_paper (goes_on 10 _ _ p.is_on_grid (goes_on 5 _ _ p.coefficient_in (goes_on 6 _ _ p.transport_is_in none_left))))))

-- ---- 21, after all of them

one_more : (k : ℕ) (t : Bool) (l r : List Posed) (n : ℕ) → first_no r ≡ cond (eqb (first_no l) 0) n (first_no l)
    → first_no ((suc k, t) ∷ r) ≡ cond (eqb (first_no ((suc k, t) ∷ l)) 0) n (first_no ((suc k, t) ∷ l))
unfolding first_no
one_more k true l r n h = h
one_more k false l r n h = rw (ne_eqb (suc k) 0 (λ e. omega arith))

none_before : (t : Bool) → first_no ((21, t) ∷ []) ≡ cond (eqb (first_no []) 0) (cond t 0 21) (first_no [])
unfolding first_no
none_before t = refl

pub write_answer_lem : (i : ItemCodes) (room : ℕ) → write_answer i room ≡ cond (eqb (item_answer i) 0) (cond (leb (length (item_bytes (kept i))) room) 0 21) (item_answer i)
unfolding write_answer write_questions item_answer item_questions
write_answer_lem i room =
    one_more 0 _ _ _ _ (one_more 1 _ _ _ _ (one_more 3 _ _ _ _ (one_more 10 _ _ _ _ (one_more 9 _ _ _ _ (one_more 4 _ _ _ _ (one_more 5 _ _ _ _ (none_before (leb (length (item_bytes (kept i))) room))))))))

-- ---- what the tests of a curve say of its parts, and of the curve as it is kept

module _ (c : ShapeCodes) where
  pub loopback_known : shape_known c ≡ true → ltb c.loopback.code 2 ≡ true
  unfolding shape_known
  loopback_known h = (and_true (every_kept point_known no_point_codes c.points c.count) (ltb c.loopback.code 2) h).1

  pub points_finite : shape_finite c ≡ true → (k : ℕ) → k < min c.count 64 → point_finite (get_or c.points k no_point_codes) ≡ true
  unfolding shape_finite every_kept
  points_finite h = every_so _ _ h

  known_kept : shape_known c ≡ true → shape_known (kept_shape c) ≡ true
  unfolding shape_known kept_shape kept_loopback
  known_kept h = both (kept_test c point_known (λ k _. point_known_lem (get_or c.points k no_point_codes))) (loopback_known h)

  finite_kept : shape_finite c ≡ true → shape_finite (kept_shape c) ≡ true
  finite_kept h = unfold shape_finite in kept_test c point_finite (λ k r. point_finite_lem (get_or c.points k no_point_codes) (points_finite h k r))

  index_kept : loopback_in c ≡ true → loopback_in (kept_shape c) ≡ true
  unfolding loopback_in kept_shape
  index_kept h = let few : min (kept_shape c).count 64 ≡ min c.count 64 = omega (arith, kept_count c) in rw few (loopback_below_lem c.loopback (min c.count 64) ∙ h)

  on_grid_at : shape_on_grid c ≡ true → (k : ℕ) → k < min c.count 64 → point_on_grid (get_or c.points k no_point_codes) ≡ true
  unfolding shape_on_grid every_kept
  on_grid_at h = every_so (λ k. point_on_grid (get_or c.points k no_point_codes)) _ h

  grid_kept : shape_finite c ≡ true → shape_on_grid c ≡ true → shape_on_grid (kept_shape c) ≡ true
  grid_kept f h =
      unfold shape_on_grid in kept_test c point_on_grid (λ k r. ap on_grid (curve_kept (get_or c.points k no_point_codes) (points_finite f k r)) ∙ on_grid_at h k r)

module _ (c : PathCodes) where
  pub closed_known : path_known c ≡ true → ltb c.closed 2 ≡ true
  unfolding path_known
  closed_known h = (and_true (every_kept path_point_known no_path_point_codes c.points c.count) (ltb c.closed 2) h).1

  pub path_points_finite : path_finite c ≡ true → (k : ℕ) → k < min c.count 64 → path_point_finite (get_or c.points k no_path_point_codes) ≡ true
  unfolding path_finite every_kept
  path_points_finite h = every_so _ _ h

  pub points_on_paper : path_on_paper c ≡ true → (k : ℕ) → k < min c.count 64 → path_point_on_paper (get_or c.points k no_path_point_codes) ≡ true
  unfolding path_on_paper every_kept
  points_on_paper h = every_so (λ k. path_point_on_paper (get_or c.points k no_path_point_codes)) _ h

  path_known_kept : path_known c ≡ true → path_known (kept_path c) ≡ true
  unfolding path_known kept_path
  path_known_kept h = both (path_test c path_point_known (λ k _. path_point_known_lem (get_or c.points k no_path_point_codes))) (closed_known h)

  path_finite_kept : path_finite c ≡ true → path_finite (kept_path c) ≡ true
  path_finite_kept h = unfold path_finite in path_test c path_point_finite (λ k r. path_point_finite_lem (get_or c.points k no_path_point_codes) (path_points_finite h k r))

  path_paper_kept : path_on_paper c ≡ true → path_on_paper (kept_path c) ≡ true
  path_paper_kept h = unfold path_on_paper in path_test c path_point_on_paper (λ k r. paper_kept (get_or c.points k no_path_point_codes) (points_on_paper h k r))

pub keeps : (i : ItemCodes) → Passed i → Passed (kept i)
unfolding kept
keeps i p =
    record {
      settings_are_known = settings_known_lem i.settings ∙ p.settings_are_known;
      shape_is_known = known_kept i.shape p.shape_is_known;
      path_is_known = path_known_kept i.path p.path_is_known;
      transport_is_known = p.transport_is_known;
      settings_are_finite = settings_finite_lem i.settings ∙ p.settings_are_finite;
      shape_is_finite = finite_kept i.shape p.shape_is_finite;
      path_is_finite = path_finite_kept i.path p.path_is_finite;
      buses_are_finite = p.buses_are_finite;
      transport_is_finite = p.transport_is_finite;
      loopback_is_in = index_kept i.shape p.loopback_is_in;
      is_on_paper = path_paper_kept i.path p.is_on_paper;
      is_on_grid = grid_kept i.shape p.shape_is_finite p.is_on_grid;
      coefficient_in = smooth_is_in i.settings ∙ p.coefficient_in;
      transport_is_in = p.transport_is_in;
    }

-- ---- the calls that an accepted item stands for

module _ (i : ItemCodes) (h : item_answer i ≡ 0) where
  p : Passed i
  p = passes i h

  pub settings_accepted : first_no (settings_questions i.settings) ≡ 0
  unfolding settings_questions
  settings_accepted = goes_on 1 _ _ p.settings_are_known (goes_on 2 _ _ p.settings_are_finite (goes_on 5 _ _ p.coefficient_in none_left))

  pub shape_accepted : first_no (shape_questions true i.shape) ≡ 0
  unfolding shape_questions
  shape_accepted =
      goes_on 1 _ _ p.shape_is_known (goes_on 2 _ _ (both p.shape_is_finite refl) (goes_on 4 _ _ p.loopback_is_in (goes_on 10 _ _ p.is_on_grid none_left)))

  pub path_accepted : first_no (path_questions true i.path) ≡ 0
  unfolding path_questions
  path_accepted = goes_on 1 _ _ p.path_is_known (goes_on 2 _ _ (both p.path_is_finite refl) (goes_on 11 _ _ p.is_on_paper none_left))

  pub bus_accepted : length i.buses ≡ 16 → (k : ℕ) → k < 16 → first_no (bus_questions k (get_or i.buses k nan)) ≡ 0
  unfolding bus_questions
  bus_accepted sixteen k few = goes_on 2 _ _ (every_so _ _ p.buses_are_finite k (omega arith)) (goes_on 9 _ _ (lt-ltb k 16 few) none_left)
