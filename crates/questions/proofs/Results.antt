-- What a result answers. Assumes nothing.
use Rattle.std.specs.Prelude.{Result, Ok, Err, IsErr, IsErrAnd}
use Prim.Native.Nat.{ℕ}
use mathlib.Core.Path.{◌≡◌, refl, sym, ap, ◌∙◌}
use mathlib.Core.List.{List, [], ◌∷◌}
use borrow.Author.Tests.{ne_eqb}
use lib.Ieee.{Float, nan}
use Rattle.questions.specs.declared.question.Question.{Question}
use Rattle.questions.specs.Answers.{Answer, question_number, refusal, success, answer_with, answer_of, result_answer, Told, ValueTold}
use Rattle.questions.proofs.Numbers.{number_not_zero, number_told}

-- a refusal answers with its question's number alone
pub refusal_is : {A : Type 0} (f : A → List Float) (q : Question) (n : ℕ) (l : List Float) → question_number q ≡ n → result_answer f (Err q) ≡ answer_with n l
refusal_is f q n l e = rw (← e, ne_eqb (question_number q) 0 (number_not_zero q))

-- an accepted call answers with its values
pub success_is : {A : Type 0} (f : A → List Float) (a : A) (n : ℕ) (l : List Float) → 0 ≡ n → f a ≡ l → result_answer f (Ok a) ≡ answer_with n l
success_is f a n l e v = rw (← e, v)

-- of values that tell what was returned
pub told_by : {A : Type 0} (f : A → List Float) (back : List Float → A) → ((a : A) → back (f a) ≡ a) → Told f
told_by f back known (Ok a) (Ok b) e = ap Ok (sym (known a) ∙ ap (λ (z : Answer). back z.values) e ∙ known b)
told_by f back known (Ok a) (Err q) e = absurd (number_not_zero q (sym (ap (λ (z : Answer). z.number) e)))
told_by f back known (Err q) (Ok b) e = absurd (number_not_zero q (ap (λ (z : Answer). z.number) e))
told_by f back known (Err q) (Err r) e = ap Err (number_told q r (ap (λ (z : Answer). z.number) e))

abbrev first : List Float → Float
first [] = nan
first (x ∷ l) = x

pub value_told : ValueTold
value_told = told_by _ first (λ x. refl)

-- what `?` gives back is the question that it was handed
pub passed_on : {A : Type 0} {q : Question} (r : Result A Question) → IsErr r × IsErrAnd r (λ e. e ≡ q) → r ≡ Err q
passed_on (Ok a) h = absurd h.1
passed_on (Err e) h = ap Err h.1
