-- The numbers of the questions. Assumes nothing.
use Prim.Native.Nat.{ℕ}
use mathlib.Core.Path.{◌≡◌, refl, sym, ◌∙◌, ap}
use mathlib.Core.Bool.{cond}
use lib.Dec.{eqb}
use native.Mathlib.Omega.{arith}
use Rattle.questions.specs.declared.question.Question.{Question}
use Rattle.questions.specs.Answers.{question_number, NumberNotZero, NumberTold}

pub number_not_zero : NumberNotZero
number_not_zero Question.Known h = omega arith
number_not_zero Question.Finite h = omega arith
number_not_zero Question.Loopback h = omega arith
number_not_zero Question.Smoothing h = omega arith
number_not_zero Question.Transport h = omega arith
number_not_zero Question.Room h = omega arith
number_not_zero Question.Played h = omega arith
number_not_zero Question.Bus h = omega arith
number_not_zero Question.Grid h = omega arith
number_not_zero Question.Paper h = omega arith
number_not_zero Question.Voices h = omega arith
number_not_zero Question.Voice h = omega arith

-- the question of a number; of any other number the last one
abbrev numbered : ℕ → Question
numbered n =
    cond (eqb n 1) Question.Known (
    cond (eqb n 2) Question.Finite (
    cond (eqb n 4) Question.Loopback (
    cond (eqb n 5) Question.Smoothing (
    cond (eqb n 6) Question.Transport (
    cond (eqb n 7) Question.Room (
    cond (eqb n 8) Question.Played (
    cond (eqb n 9) Question.Bus (
    cond (eqb n 10) Question.Grid (
    cond (eqb n 11) Question.Paper (
    cond (eqb n 15) Question.Voices (
    Question.Voice)))))))))))

numbered_back : (q : Question) → numbered (question_number q) ≡ q
numbered_back Question.Known = refl
numbered_back Question.Finite = refl
numbered_back Question.Loopback = refl
numbered_back Question.Smoothing = refl
numbered_back Question.Transport = refl
numbered_back Question.Room = refl
numbered_back Question.Played = refl
numbered_back Question.Bus = refl
numbered_back Question.Grid = refl
numbered_back Question.Paper = refl
numbered_back Question.Voices = refl
numbered_back Question.Voice = refl

pub number_told : NumberTold
number_told q r h = sym (numbered_back q) ∙ ap numbered h ∙ numbered_back r
