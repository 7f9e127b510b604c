-- The sheet of a sitting: the text that its bytes give. Assumes nothing.
use Rattle.std.specs.Prelude.{ℕ, zero, suc, cond, List, [], ◌∷◌, ◌++◌, length, drop}
use Rattle.calls.specs.Calls.{bus, answer, accepts}
use Rattle.fields.specs.Parser.{Parsed, read, fault}
use Rattle.codes.specs.declared.ItemCodes.{ItemCodes}
use Rattle.record.specs.Items.{transport_of}
use Rattle.record.specs.Records.{left_over, accepted_item}
use Rattle.item_calls.specs.Calls.{item_state}
use Rattle.text.specs.Lines.{header, numbers}
use Rattle.sittings.specs.declared.Event.{Event}
use Rattle.sittings.specs.declared.Event.TheVariants.{Block, Restart, Bus, End}
use Rattle.sittings.specs.Events.{event}
use Rattle.sittings.specs.Courses.{Course, no_restart, block_of, block_lines, after_block, after_restart, after_bus}

-- "A failing event prints its index from 0, a blank and its number, and the sitting ends there"
abbrev pub failed : ℕ → ℕ → List ℕ
failed index n = numbers index (n ∷ [])

-- "no byte where an event should begin 18"
abbrev pub missing : ℕ
missing = 18

-- "bytes after the end 14", which "carries" the index "of the end"
unfoldable pub after_end : ℕ → List ℕ → List ℕ
after_end index [] = []
after_end index (b ∷ l) = failed index left_over

-- `rest` is what is printed from a course on, by the bytes that are left.
module _ (rest : Course → List ℕ → List ℕ) where
  -- what is printed from an event on, with the bytes l behind it
  unfoldable pub from_event : Course → Event → List ℕ → List ℕ
  from_event p (Block frames) l = cond (accepts p.state (block_of p frames)) (block_lines p frames ++ rest (after_block p frames) l) (failed p.index (answer p.state (block_of p frames)))
  from_event p (Restart frame) l = rest (after_restart p frame) l
  from_event p (Bus k value) l = cond (accepts p.state (bus k value)) (rest (after_bus p k value) l) (failed p.index (answer p.state (bus k value)))
  from_event p End l = after_end p.index l

  unfoldable pub from_read : Course → List ℕ → Parsed Event → List ℕ
  from_read p l (read e next) = from_event p e (drop next l)
  from_read p l (fault n) = failed p.index n

-- What the events in the bytes l give, of which `most` are looked at. Each takes a byte or more, so there are no more of them than bytes: `enough` of proofs/Enough.antt.
unfoldable pub events_text : ℕ → Course → List ℕ → List ℕ
events_text zero p l = failed p.index missing
events_text (suc most) p [] = failed p.index missing
events_text (suc most) p (b ∷ l) = from_read (events_text most) p (b ∷ l) (event (b ∷ l) 0)

unfoldable pub events_from : Course → List ℕ → List ℕ
events_from p l = events_text (length l) p l

-- "The transport plays from beat 0 and second 0"
unfoldable pub started : ItemCodes → Course
started i = record { state = item_state i; transport = transport_of i; waiting = no_restart; index = 0 }

-- "A refused item prints its number alone."
unfoldable pub from_item : List ℕ → Parsed ItemCodes → List ℕ
from_item s (read i next) = header ++ events_from (started i) (drop next s)
from_item s (fault n) = numbers n []

unfoldable pub sheet : List ℕ → List ℕ
sheet s = from_item s (accepted_item s 0)
