-- What a call answers. Assumes nothing.
use Rattle.std.specs.Prelude.{ℕ, ◌≡◌, cond, List, [], ◌∷◌, eqb, Float, Result, Ok, Err}
use Rattle.questions.specs.declared.question.Question.{Question}

-- the number of a question, as documents 01 and 02 count them
abbrev pub question_number : Question → ℕ
question_number Question.Known = 1
question_number Question.Finite = 2
question_number Question.Loopback = 4
question_number Question.Smoothing = 5
question_number Question.Transport = 6
question_number Question.Room = 7
question_number Question.Played = 8
question_number Question.Bus = 9
question_number Question.Grid = 10
question_number Question.Paper = 11
question_number Question.Voices = 15
question_number Question.Voice = 16

-- no number is that of success
abbrev pub NumberNotZero : Type 0
NumberNotZero = (q : Question) → question_number q ≡ 0 → ⊥

-- two questions with one number are one question
abbrev pub NumberTold : Type 0
NumberTold = (q r : Question) → question_number q ≡ question_number r → q ≡ r

-- "this paper's number and values": the number, and the values that are returned with it
pub record Answer : Type 0 where
  pub number : ℕ
  pub values : List Float

-- "A refusal returns that number alone"
abbrev pub refusal : ℕ → Answer
refusal n = record { number = n; values = [] }

-- "Success is 0"
abbrev pub success : List Float → Answer
success l = record { number = 0; values = l }

-- the number n of the first "no", and the values l where there is none
abbrev pub answer_with : ℕ → List Float → Answer
answer_with n l = record { number = n; values = cond (eqb n 0) l [] }

-- ---- of a call's result, whatever A it returns

-- its number: 0 where it is accepted
abbrev pub answer_of : {A : Type 0} → Result A Question → ℕ
answer_of (Ok a) = 0
answer_of (Err q) = question_number q

-- its number, and the values f of what it returns
abbrev pub result_answer : {A : Type 0} → (A → List Float) → Result A Question → Answer
result_answer f (Ok a) = success (f a)
result_answer f (Err q) = refusal (question_number q)

-- they tell the result, so that a promise of them is one of the result
abbrev pub Told : {A : Type 0} → (A → List Float) → Type 0
Told {A} f = (r s : Result A Question) → result_answer f r ≡ result_answer f s → r ≡ s

-- the values of a call that returns one float
abbrev pub one_value : Float → List Float
one_value x = x ∷ []

abbrev pub ValueTold : Type 0
ValueTold = Told one_value
