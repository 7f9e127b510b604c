-- What the two exported functions promise of each other. Assumes nothing.
use Rattle.std.specs.Prelude.{ℕ, ◌*◌, ◌≤◌, ◌≡◌, List, length}
use Rattle.listlaws.specs.Over.{over}
use Rattle.fields.specs.Bytes.{Bytes}
use Rattle.codes.specs.declared.ItemCodes.{ItemCodes}
use Rattle.record.specs.Records.{given, read_record}
use Rattle.items.specs.Said.{handed_in, SaysItem}

-- what reading gives of a record that it accepts is the record itself
abbrev pub GivesTheRecord : Type 0
GivesTheRecord = (s : List ℕ) → Bytes s → (i : ItemCodes) → read_record s ≡ given i → (x : List ℕ) → length s ≤ length x → (r : ℕ) (y : List ℕ) → SaysItem (read_record s) x r y
    → (r ≡ 256 * length s) × (y ≡ over x 0 s)

-- a record that is accepted makes the same item in RUN.md's numbers, so that it may be handed to the writer
abbrev pub SameItem : Type 0
SameItem = (s : List ℕ) (i : ItemCodes) → read_record s ≡ given i → handed_in s ≡ given i
