-- What writing an item does. Assumes nothing.
use Rattle.std.specs.Prelude.{ℕ, ◌≤◌, ◌≡◌, List, length, take, Result, Ok, Err}
use Rattle.std.specs.Result.{result_unwrap_or}
use Rattle.codes.specs.declared.ItemCodes.{ItemCodes}
use Rattle.questions.specs.Answers.{question_number}
use Rattle.record.specs.Kept.{kept}
use Rattle.record.specs.Promises.{Typed}
use Rattle.record.specs.Records.{given, read_record, write_answer, written_length, written_to}
use Rattle.item_writer.specs.declared.Refusal.{Refusal}
use Rattle.item_writer.specs.declared.Refusal.TheVariants.{Question, NoRoom}

abbrev pub number : Refusal → ℕ
number (Question q) = question_number q
number NoRoom = 21

-- the number that writing answers: 0 where a record is written
abbrev pub number_of : Result ℕ Refusal → ℕ
number_of (Ok len) = 0
number_of (Err r) = number r

-- the length of what is written
abbrev pub length_of : Result ℕ Refusal → ℕ
length_of r = result_unwrap_or r 0

-- writing i into the buffer x says r, and leaves the buffer y
pub record WritesRecord (i : ItemCodes) (x : List ℕ) (r : Result ℕ Refusal) (y : List ℕ) : Type 0 where
  pub answer : number_of r ≡ write_answer i (length x)
  pub len : length_of r ≡ written_length i (length x)
  pub bytes : y ≡ written_to i x
  -- 1,264 numbers of at most ten bytes
  pub short : length_of r ≤ 12640
  -- codes that are handed in have their types: nothing is asked of them
  pub typed : Typed i
  -- what is written is read back, points as kept
  pub read_back : number_of r ≡ 0 → read_record (take (length_of r) y) ≡ given (kept i)
