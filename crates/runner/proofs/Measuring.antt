-- The legs of a path, measured. Assumes nothing.
use Prim.Native.Nat.{ℕ, ◌≤◌, min}
use mathlib.Core.Path.{◌≡◌, ap, sym}
use mathlib.Core.Bool.{Bool, true, false, cond}
use mathlib.Core.List.{[], ◌∷◌, append-nil}
use native.Mathlib.Omega.{arith}
use borrow.Author.Tests.{ne_eqb}
use lib.Dec.{eqb}
use lib.ListN.{take}
use Rattle.std.specs.Prelude.{Ok, Err}
use Rattle.path_segments.specs.Times.{segments_of}
use Rattle.path_segments.proofs.AcceptedPath.{segments_le}
use Rattle.path.specs.Paths.{legs_of, path_of, path_legs}
use Rattle.codes.specs.declared.PathCodes.{PathCodes}
use Rattle.curves.specs.Given.{is_yes, given_path}
use Rattle.questions.specs.declared.question.Question.{Question}
use Rattle.questions.specs.Answers.{question_number}
use Rattle.questions.specs.Questions.{first_no, path_questions}
use Rattle.questions.proofs.Numbers.{number_not_zero}
use Rattle.evaluate.specs.declared.Legs.{Legs}
use Rattle.evaluate.specs.Values.{LegsAnswer, refused_legs, legs_answer, evaluated_legs}
use Rattle.replies.specs.Replies.{bits_of, listed}
use Rattle.runner.specs.Numbers.{legs_numbers}

-- there are at most as many legs as points are kept
few_answered : (accepted : Bool) (r : LegsAnswer) (n : ℕ) → r.count ≤ 64 → (cond accepted r (refused_legs n)).count ≤ 64
few_answered true r n h = h
few_answered false r n h = omega arith

few_legs : (c : PathCodes) → (evaluated_legs c).count ≤ 64
unfolding evaluated_legs given_path path_of path_legs legs_of
few_legs c =
    let most : segments_of (min c.count 64) (is_yes c.closed) ≤ 64 = omega (arith, segments_le (min c.count 64) (is_yes c.closed)) in
    few_answered (eqb (first_no (path_questions true c)) 0) _ _ most

module _ (c : PathCodes) where
  pub few : {r : Legs} → legs_answer (Ok r) ≡ evaluated_legs c → r.count ≤ 64
  few e = rw (ap (λ (l : LegsAnswer). l.count) e) (few_legs c)

  pub measured_numbers : {r : Legs} → legs_answer (Ok r) ≡ evaluated_legs c
      → legs_numbers (evaluated_legs c) ≡ listed (0 ∷ r.count ∷ []) (take r.count r.lengths) []
  unfolding legs_numbers listed
  measured_numbers {r} e = rw (← e) (ap (λ l. 0 ∷ r.count ∷ l) (sym (append-nil (bits_of (take r.count r.lengths)))))

  pub refused_numbers : (q : Question) → legs_answer (Err q) ≡ evaluated_legs c → legs_numbers (evaluated_legs c) ≡ question_number q ∷ []
  unfolding legs_numbers
  refused_numbers q e = let no : eqb (question_number q) 0 ≡ false = ne_eqb _ 0 (number_not_zero q) in rw (← e, no)
