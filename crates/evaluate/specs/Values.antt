-- The calls that evaluate a shape, a path and the legs of a path, unmodulated, as an editor draws them. They touch no player. Assumes nothing.
use Rattle.std.specs.Prelude.{ℕ, true, cond, List, [], ◌∷◌, eqb, replicate, Float, Result, Ok, Err}
use Rattle.std.specs.Float.Ieee.Scale.{finite}
use Rattle.floatlaws.specs.Numbers.{f32_0}
use Rattle.shape.specs.Shapes.{shape_value}
use Rattle.path_segments.specs.Times.{segments_of}
use Rattle.path.specs.Paths.{path_legs, path_value}
use Rattle.codes.specs.declared.ShapeCodes.{ShapeCodes}
use Rattle.codes.specs.declared.PathCodes.{PathCodes}
use Rattle.curves.specs.Given.{given_shape, given_path}
use Rattle.path_segments.specs.declared.Xy.{Xy}
use Rattle.questions.specs.declared.question.Question.{Question}
use Rattle.questions.specs.Questions.{first_no, shape_questions, path_questions}
use Rattle.questions.specs.Answers.{Answer, question_number, answer_with, Told, ValueTold}
use Rattle.evaluate.specs.declared.Legs.{Legs}

-- ---- a shape at x

-- the number and the value of a result tell it, so that a promise of them is one of the result
abbrev pub ShapeTold : Type 0
ShapeTold = ValueTold

unfoldable pub evaluated_shape : ShapeCodes → Float → Answer
evaluated_shape c x = answer_with (first_no (shape_questions (finite x) c)) (shape_value (given_shape c) x ∷ [])

-- ---- a path at the time t

-- the values of a place
abbrev pub place_values : Xy → List Float
place_values v = v.x ∷ v.y ∷ []

abbrev pub PathTold : Type 0
PathTold = Told place_values

unfoldable pub evaluated_path : PathCodes → Float → Answer
evaluated_path c t = answer_with (first_no (path_questions (finite t) c)) (place_values (path_value (given_path c) t))

-- ---- the legs of a path

-- the number, and then how many legs there are and their lengths, zeros after them
pub record LegsAnswer : Type 0 where
  pub answer : ℕ
  pub count : ℕ
  pub lengths : List Float

-- "A refusal returns that number alone": there are no legs
abbrev pub refused_legs : ℕ → LegsAnswer
refused_legs n = record { answer = n; count = 0; lengths = replicate 64 f32_0 }

abbrev pub legs_answer : Result Legs Question → LegsAnswer
legs_answer (Ok l) = record { answer = 0; count = l.count; lengths = l.lengths }
legs_answer (Err q) = refused_legs (question_number q)

unfoldable pub evaluated_legs : PathCodes → LegsAnswer
evaluated_legs c =
    let p = given_path c in
    let n = first_no (path_questions true c) in
    cond (eqb n 0) (record { answer = 0; count = segments_of p.len p.closed; lengths = path_legs p }) (refused_legs n)
