-- What the exported functions answer, and what they leave in the buffer. Assumes nothing.
use Rattle.std.specs.Prelude.{ℕ, ◌+◌, ◌*◌, ◌≡◌, Option, Some, None, List, length, take}
use Rattle.fields.specs.Parser.{Parsed, Parser, read, fault, ◌then◌}
use Rattle.codes.specs.declared.ItemCodes.{ItemCodes}
use Rattle.runs.specs.Records.{settings, scale}
use Rattle.runs.specs.Curves.{shape, path}
use Rattle.record.specs.Reading.{item_by}
use Rattle.record.specs.Kept.{kept}
use Rattle.record.specs.Records.{Outcome, given, refused, ended, read_record, write_answer, written_length, written_to}

-- ---- an item handed in

-- in RUN.md's numbers: any codes and any points, so that items which no record holds are among them
unfoldable pub item : Parser ItemCodes
item = item_by settings shape path scale

-- the number of bytes that make no item, and of bytes left over
abbrev pub malformed : ℕ
malformed = 255

unfoldable pub or_malformed : Parsed ItemCodes → Outcome ItemCodes
or_malformed (read i next) = given i
or_malformed (fault n) = refused malformed

-- the item that bytes make, with nothing behind it
unfoldable pub handed_in : List ℕ → Outcome ItemCodes
handed_in s = or_malformed ((item then ended) s 0)

-- how the program says it
abbrev pub handed : Option ItemCodes → Outcome ItemCodes
handed (Some i) = given i
handed None = refused malformed

-- ---- an item written into a buffer, or a refusal, which leaves every byte

-- the number, and 256 times the length of what was written into a buffer of `room` bytes
abbrev pub said : Outcome ItemCodes → ℕ → ℕ
said (given i) room = write_answer i room + 256 * written_length i room
said (refused n) room = n

abbrev pub left : Outcome ItemCodes → List ℕ → List ℕ
left (given i) x = written_to i x
left (refused n) x = x

-- of what was given or refused: the answer r, and the buffer x, which is then y
pub record SaysItem (a : Outcome ItemCodes) (x : List ℕ) (r : ℕ) (y : List ℕ) : Type 0 where
  pub answer : r ≡ said a (length x)
  pub bytes : y ≡ left a x
  -- what is written is a record, and the reader gives the item back from it, points as kept
  pub read_back : (i : ItemCodes) → a ≡ given i → write_answer i (length x) ≡ 0 → read_record (take (written_length i (length x)) y) ≡ given (kept i)
