-- The points of a path that is accepted, as it keeps them: where they were handed in, on the paper. Assumes nothing.
use Prim.Native.Nat.{ℕ, ◌<◌, min}
use mathlib.Core.Path.{◌≡◌, sym, ap, ◌∙◌, subst}
use mathlib.Core.Bool.{Bool}
use lib.Dec.{T}
use lib.ListN.{get_or}
use lib.Ieee.{Float}
use Rattle.listlaws.proofs.Tabulation.{get_or_padded}
use Rattle.leg.specs.Paper.{on_paper}
use Rattle.leg.proofs.Coordinates.{paper_kept}
use Rattle.path.specs.declared.PathPoint.{PathPoint}
use Rattle.path.specs.Paths.{blank_path_point, no_path_point, clamped_path_point, PointOnPaper, clamped_path, path_of}
use Rattle.codes.specs.declared.PathPointCodes.{PathPointCodes}
use Rattle.codes.specs.declared.PathCodes.{PathCodes}
use Rattle.curves.specs.Given.{no_path_point_codes, path_point_of, given_path_points, given_path}
use Rattle.questions.proofs.Facts.{PathAccepted}

kept_point : (c : PathCodes) (k : ℕ) → k < min c.count 64
    → get_or (given_path c).points k no_path_point ≡ clamped_path_point (path_point_of (get_or c.points k no_path_point_codes))
unfolding given_path path_of clamped_path given_path_points
kept_point c k h =
    get_or_padded _ 64 blank_path_point (min c.count 64) k no_path_point h
    ∙ ap clamped_path_point (get_or_padded (λ i. path_point_of (get_or c.points i no_path_point_codes)) 64 blank_path_point (min c.count 64) k no_path_point h)

module _ (others : Bool) (c : PathCodes) (a : PathAccepted others c) where
  abbrev at : ℕ → PathPointCodes
  at k = get_or c.points k no_path_point_codes

  abbrev kept : ℕ → PathPoint
  kept k = get_or (given_path c).points k no_path_point

  pub kept_x : (k : ℕ) → k < min c.count 64 → (kept k).x ≡ (at k).x
  unfolding clamped_path_point path_point_of
  kept_x k h = ap (λ (p : PathPoint). p.x) (kept_point c k h) ∙ paper_kept (at k).x (a.points_on_paper k h).0

  pub kept_y : (k : ℕ) → k < min c.count 64 → (kept k).y ≡ (at k).y
  unfolding clamped_path_point path_point_of
  kept_y k h = ap (λ (p : PathPoint). p.y) (kept_point c k h) ∙ paper_kept (at k).y (a.points_on_paper k h).1

  pub kept_on_paper : (k : ℕ) → k < min c.count 64 → PointOnPaper (kept k)
  kept_on_paper k h =
      let on : Float → Type 0 = λ c. T (on_paper c) in
      (subst on (sym (kept_x k h)) (a.points_on_paper k h).0, subst on (sym (kept_y k h)) (a.points_on_paper k h).1)
