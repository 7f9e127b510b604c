-- A sitting whose bytes come in pieces. Assumes nothing.
use Rattle.std.specs.Prelude.{ℕ, suc, ◌≡◌, cond, List, [], ◌∷◌, ◌++◌, eqb, ltb, length}
use Rattle.number.specs.Read.{leading}
use Rattle.calls.specs.Calls.{bus, answer, accepts}
use Rattle.fields.specs.Parser.{Parsed, read, fault, cut_short, bad_number}
use Rattle.streams.specs.Streams.{unending}
use Rattle.codes.specs.declared.ItemCodes.{ItemCodes}
use Rattle.record.specs.Records.{left_over, accepted_item}
use Rattle.text.specs.Lines.{header, numbers}
use Rattle.sittings.specs.declared.Event.{Event}
use Rattle.sittings.specs.declared.Event.TheVariants.{Block, Restart, Bus, End}
use Rattle.sittings.specs.Events.{event}
use Rattle.sittings.specs.Courses.{Course, block_of, block_lines, after_block, after_restart, after_bus}
use Rattle.sittings.specs.Sheets.{failed, missing, after_end, events_from, started, from_item}

-- what is being read: the item, or the event of an index
pub data BeingRead : Type 0 where
  the_item : BeingRead
  the_event : ℕ → BeingRead

-- the line of a fault in it
abbrev pub fault_line : BeingRead → ℕ → List ℕ
fault_line the_item n = numbers n []
fault_line (the_event index) n = failed index n

-- the most bytes that it has, ten for each number
abbrev pub most_of : BeingRead → ℕ
most_of the_item = 12640
most_of (the_event index) = 30

-- How far a sitting has come.
pub data Stage : Type 0 where
  -- before the item
  opening : Stage
  -- before an event
  playing : Course → Stage
  -- after the end, which has this index
  closing : ℕ → Stage
  -- in a number of more than ten bytes
  stuck : BeingRead → Stage
  -- nothing more is printed
  no_more : Stage

-- what a program does with the bytes at hand: it wants more of them; or it prints a text, takes so many bytes and goes on from a stage
pub data Turn : Type 0 where
  wants : Turn
  went : List ℕ → ℕ → Stage → Turn

-- ---- one turn, by the bytes l at hand

-- a fault in what is read: cut short, it wants more, unless there are more than it can have
unfoldable pub fault_turn : BeingRead → List ℕ → ℕ → Turn
fault_turn r l n = cond (eqb n cut_short) (cond (ltb (most_of r) (length l)) (went [] (length l) (stuck r)) wants) (went (fault_line r n) (length l) no_more)

-- an event that takes `next` bytes
unfoldable pub event_turn : Course → Event → ℕ → Turn
event_turn p (Block frames) next =
    cond (accepts p.state (block_of p frames)) (went (block_lines p frames) next (playing (after_block p frames)))
    (went (failed p.index (answer p.state (block_of p frames))) next no_more)
event_turn p (Restart frame) next = went [] next (playing (after_restart p frame))
event_turn p (Bus k value) next =
    cond (accepts p.state (bus k value)) (went [] next (playing (after_bus p k value))) (went (failed p.index (answer p.state (bus k value))) next no_more)
event_turn p End next = went [] next (closing p.index)

unfoldable pub read_turn : Course → List ℕ → Parsed Event → Turn
read_turn p l (read e next) = event_turn p e next
read_turn p l (fault n) = fault_turn (the_event p.index) l n

unfoldable pub playing_turn : Course → List ℕ → Turn
playing_turn p [] = wants
playing_turn p (b ∷ l) = read_turn p (b ∷ l) (event (b ∷ l) 0)

unfoldable pub closing_turn : ℕ → List ℕ → Turn
closing_turn index [] = wants
closing_turn index (b ∷ l) = went (failed index left_over) (suc (length l)) no_more

unfoldable pub stuck_turn : BeingRead → List ℕ → Turn
stuck_turn r [] = wants
stuck_turn r (b ∷ l) = cond (ltb (leading (b ∷ l)) (length (b ∷ l))) (went (fault_line r bad_number) (suc (length l)) no_more) (went [] (suc (length l)) (stuck r))

-- what is printed last, where more bytes are wanted and there are none
unfoldable pub last_text : Stage → List ℕ → List ℕ
last_text opening l = fault_line the_item cut_short
last_text (playing p) [] = failed p.index missing
last_text (playing p) (b ∷ l) = failed p.index cut_short
last_text (closing index) l = []
last_text (stuck r) l = fault_line r cut_short
last_text no_more l = []

-- what is printed from a stage on, where l are all the bytes that are left
unfoldable pub text_from : Stage → List ℕ → List ℕ
text_from opening l = from_item l (accepted_item l 0)
text_from (playing p) l = events_from p l
text_from (closing index) l = after_end index l
text_from (stuck r) l = fault_line r (unending l)
text_from no_more l = []

unfoldable pub item_turn : List ℕ → Parsed ItemCodes → Turn
item_turn l (read i next) = went header next (playing (started i))
item_turn l (fault n) = fault_turn the_item l n

unfoldable pub turn : Stage → List ℕ → Turn
turn opening l = item_turn l (accepted_item l 0)
turn (playing p) l = playing_turn p l
turn (closing index) l = closing_turn index l
turn (stuck r) l = stuck_turn r l
turn no_more l = went [] (length l) no_more

-- ---- a program

-- Whatever comes behind the bytes `held`, a sitting at the stage σ prints `text` and then what it prints from σ' on with the bytes `left`.
pub record Goes (σ : Stage) (held text : List ℕ) (σ' : Stage) (left : List ℕ) : Type 0 where
  pub is : (more : List ℕ) → text_from σ (held ++ more) ≡ text ++ text_from σ' (left ++ more)

-- A program at the stage σ, with the bytes `held` at hand and `input` still to be read, prints `text` from here on.
pub data Prints : Stage → List ℕ → List ℕ → List ℕ → Type 0 where
  -- it reads a piece, of any length
  reads : {σ : Stage} (held piece input : List ℕ) {text : List ℕ} → Prints σ (held ++ piece) input text → Prints σ held (piece ++ input) text
  -- it goes on by some turns
  goes : {σ σ' : Stage} {held left input : List ℕ} (t text : List ℕ) → Goes σ held t σ' left → Prints σ' left input text → Prints σ held input (t ++ text)
  -- it wants more, and the input has after_end
  ends : {σ : Stage} {held : List ℕ} → turn σ held ≡ wants → Prints σ held [] (last_text σ held)
  -- it does not read to the end
  stops : {held input : List ℕ} → Prints no_more held input []
