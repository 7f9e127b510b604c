-- The reader and the writer of records. Assumes nothing.
use Rattle.std.specs.Prelude.{ℕ, cond, List, [], ◌∷◌, ◌++◌, eqb, leb, length}
use Rattle.listlaws.specs.Over.{over}
use Rattle.questions.specs.Questions.{Posed, first_no}
use Rattle.fields.specs.Parser.{Parsed, read, fault, Parser, ◌then◌}
use Rattle.codes.specs.declared.ItemCodes.{ItemCodes}
use Rattle.record.specs.Reading.{item}
use Rattle.record.specs.Writing.{item_bytes}
use Rattle.record.specs.Kept.{kept}
use Rattle.record.specs.Questions.{item_questions, item_answer}

-- what was asked for, or a number
pub data Outcome (A : Type 0) : Type 0 where
  given : A → Outcome A
  refused : ℕ → Outcome A

-- given where the number is 0
abbrev pub unless : {A : Type 0} → ℕ → A → Outcome A
unless n a = cond (eqb n 0) (given a) (refused n)

-- "bytes left over give 14", for the reader that knows that its bytes end here
abbrev pub left_over : ℕ
left_over = 14

unfoldable pub ended : {A : Type 0} → A → Parser A
ended a s at = cond (eqb at (length s)) (read a at) (fault left_over)

-- an item with something behind it: the questions are put once the item is read
unfoldable pub accepted_item : Parser ItemCodes
accepted_item = item then λ i s at. let n = item_answer i in cond (eqb n 0) (read i at) (fault n)

-- a whole record: 12, 13 and 14
unfoldable pub whole_record : Parser ItemCodes
whole_record = item then ended

-- "Reading goes from front to back, before the questions"
unfoldable pub asked : Parsed ItemCodes → Outcome ItemCodes
asked (read i next) = unless (item_answer i) i
asked (fault n) = refused n

unfoldable pub read_record : List ℕ → Outcome ItemCodes
read_record s = asked (whole_record s 0)

-- "The writer puts the questions first and writes points as the player keeps them"
unfoldable pub write_record : ItemCodes → Outcome (List ℕ)
write_record i = unless (item_answer i) (item_bytes (kept i))

-- "A buffer too short for the writer gives 21, after the questions": those of writing into a buffer of `room` bytes
unfoldable pub write_questions : ItemCodes → ℕ → List Posed
write_questions i room = item_questions i ++ ((21, leb (length (item_bytes (kept i))) room) ∷ [])

-- the number that it answers, the length of the record that is written, and the buffer x after it
unfoldable pub write_answer : ItemCodes → ℕ → ℕ
write_answer i room = first_no (write_questions i room)

unfoldable pub written_length : ItemCodes → ℕ → ℕ
written_length i room = cond (eqb (write_answer i room) 0) (length (item_bytes (kept i))) 0

unfoldable pub written_to : ItemCodes → List ℕ → List ℕ
written_to i x = cond (eqb (write_answer i (length x)) 0) (over x 0 (item_bytes (kept i))) x
