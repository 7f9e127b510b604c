-- How a program says that an item is refused. Assumes nothing.
use Rattle.std.specs.Prelude.{ℕ, Result, Ok, Err}
use Rattle.codes.specs.declared.ItemCodes.{ItemCodes}
use Rattle.fields.specs.Fields.{fault_number}
use Rattle.questions.specs.Answers.{question_number}
use Rattle.record.specs.Records.{Outcome, given, refused, left_over}
use Rattle.item_reader.specs.declared.Refusal.{Refusal}
use Rattle.item_reader.specs.declared.Refusal.TheVariants.{Fault, LeftOver, Question}

abbrev pub number : Refusal → ℕ
number (Fault f) = fault_number f
number LeftOver = left_over
number (Question q) = question_number q

-- what a record gives
abbrev pub outcome : Result ItemCodes Refusal → Outcome ItemCodes
outcome (Ok i) = given i
outcome (Err r) = refused (number r)
