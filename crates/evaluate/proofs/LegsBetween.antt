-- Every leg that is returned is the one between the points that were handed in. Assumes nothing.
use Prim.Native.Nat.{ℕ, ◌+◌, ◌%◌, ◌<◌, min}
use mathlib.Core.Path.{◌≡◌, refl, subst}
use mathlib.Core.Bool.{Bool, true, false, cond}
use native.Mathlib.Nat.{lt_of_lt_of_le, mod-lt}
use native.Mathlib.Omega.{arith}
use borrow.Author.Tests.{eqb-true}
use lib.Dec.{eqb}
use lib.ListN.{get_or}
use lib.Ieee.{nan}
use Rattle.leg.specs.Root.{LegBetween}
use Rattle.path_segments.specs.Times.{segments_of}
use Rattle.path_segments.proofs.AcceptedPath.{segments_le}
use Rattle.path.specs.Paths.{path_of, path_legs}
use Rattle.path.proofs.PathLegs.{legs_between}
use Rattle.codes.specs.declared.PathPointCodes.{PathPointCodes}
use Rattle.codes.specs.declared.PathCodes.{PathCodes}
use Rattle.curves.specs.Given.{is_yes, no_path_point_codes, given_path}
use Rattle.questions.specs.Questions.{first_no, path_questions}
use Rattle.questions.proofs.Facts.{path_accepted}
use Rattle.questions.proofs.KeptPoints.{kept_x, kept_y, kept_on_paper}
use Rattle.evaluate.specs.Values.{LegsAnswer, refused_legs, evaluated_legs}
use Rattle.evaluate.specs.Legs.{LegsBetween, LegLaw}

module _ (c : PathCodes) (accepted : first_no (path_questions true c) ≡ 0) where
  abbrev len : ℕ
  len = min c.count 64

  abbrev n : ℕ
  n = segments_of len (is_yes c.closed)

  abbrev at : ℕ → PathPointCodes
  at k = get_or c.points k no_path_point_codes

  -- a leg between kept points is the one between those handed in
  leg : (j : ℕ) → j < n → let k = (j + 1) % len in LegBetween (at j).x (at j).y (at k).x (at k).y (get_or (path_legs (given_path c)) j nan)
  unfolding given_path path_of
  leg j h =
      let J = lt_of_lt_of_le h (segments_le len (is_yes c.closed)) in
      let k = (j + 1) % len in
      let K : k < len = mod-lt (j + 1) (omega arith) in
      let a = path_accepted true c accepted in
      rw (← kept_x true c a j J, ← kept_y true c a j J, ← kept_x true c a k K, ← kept_y true c a k K)
      (legs_between (given_path c) (kept_on_paper true c a) j h)

  abbrev answered : LegsAnswer
  answered = let p = given_path c in record { answer = 0; count = segments_of p.len p.closed; lengths = path_legs p }

  answered_is : answered ≡ evaluated_legs c
  unfolding evaluated_legs
  answered_is = rw accepted refl

  between : LegsBetween c (evaluated_legs c)
  unfolding given_path path_of
  between = subst (LegsBetween c) answered_is (record { count_is = refl; each = leg })

-- an answer of 0 is the questions' own
told : (c : PathCodes) → (evaluated_legs c).answer ≡ 0 → first_no (path_questions true c) ≡ 0
unfolding evaluated_legs
told c = let a = first_no (path_questions true c) in go a (eqb a 0) _ refl
  where
    go : (a : ℕ) (b : Bool) (r : LegsAnswer) → eqb a 0 ≡ b → (cond b r (refused_legs a)).answer ≡ 0 → a ≡ 0
    go a true r e h = eqb-true a 0 e
    go a false r e h = h

pub leg_law : LegLaw
leg_law c h = between c (told c h)
