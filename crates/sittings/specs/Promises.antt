-- What is proved of sheets. Assumes nothing.
use Rattle.std.specs.Prelude.{ℕ, ◌≤◌, ◌≡◌, List, [], ◌∷◌, ◌++◌, length, drop}
use Rattle.codes.specs.declared.TransportCodes.{TransportCodes}
use Rattle.codes.specs.declared.RestartCodes.{RestartCodes}
use Rattle.restart.specs.Heard.{Side, x_side, y_side}
use Rattle.fields.specs.Parser.{read, fault}
use Rattle.codes.specs.declared.ItemCodes.{ItemCodes}
use Rattle.record.specs.Records.{accepted_item}
use Rattle.item_calls.specs.Calls.{item_state}
use Rattle.text.specs.Lines.{header, lines, numbers}
use Rattle.sittings.specs.declared.Event.{Event}
use Rattle.sittings.specs.declared.Event.TheVariants.{Restart}
use Rattle.sittings.specs.Sheets.{sheet}
use Rattle.sittings.specs.OneByOne.{script, event_calls, flat, last_line, sitting_calls, printed}
use Rattle.sittings.specs.Frames.{frames_of}
use Rattle.sittings.specs.Windows.{Stage, opening, wants, went, turn, text_from, last_text, Goes, Prints}

-- "a restart still waiting at the end having no effect": the calls are the same without it
abbrev pub NoEffect : Type 0
NoEffect = (t : TransportCodes) (waiting : RestartCodes) (es : List Event) (frame : ℕ) → flat (event_calls t waiting (es ++ (Restart frame ∷ []))) ≡ flat (event_calls t waiting es)

-- "The printed values equal those of the calls made one by one"; "Frames are counted through from 0"
abbrev pub CallsOneByOne : Type 0
CallsOneByOne = (s : List ℕ) (i : ItemCodes) (next : ℕ) → accepted_item s 0 ≡ read i next →
    let l = drop next s in
    sheet s ≡ header ++ lines 0 (printed x_side i l) (printed y_side i l) ++ last_line (item_state i) 0 (sitting_calls i l) (script l).stop

-- "A refused item prints its number alone."
abbrev pub RefusedItem : Type 0
RefusedItem = (s : List ℕ) (n : ℕ) → accepted_item s 0 ≡ fault n → sheet s ≡ numbers n []

-- as many frames are printed as its bytes say, with nothing played
abbrev pub FramesCounted : Type 0
FramesCounted = (s : List ℕ) (i : ItemCodes) (next : ℕ) → accepted_item s 0 ≡ read i next → (side : Side) → length (printed side i (drop next s)) ≡ frames_of s

-- ---- bytes in pieces

-- a turn prints what is right whatever comes behind the bytes at hand, and takes no more than these
abbrev pub TurnsRight : Type 0
TurnsRight = (σ : Stage) (l text : List ℕ) (k : ℕ) (σ' : Stage) → turn σ l ≡ went text k σ'
    → Goes σ l text σ' (drop k l) × (k ≤ length l)

-- more bytes are wanted only where there are few, so that a window of more than 12,640 bytes is never full
abbrev pub WantsFew : Type 0
WantsFew = (σ : Stage) (l : List ℕ) → turn σ l ≡ wants → length l ≤ 12640

-- where more are wanted and there are none
abbrev pub EndsRight : Type 0
EndsRight = (σ : Stage) (l : List ℕ) → turn σ l ≡ wants → text_from σ l ≡ last_text σ l

-- however the input is cut into pieces, and however many turns are made between two of them, what is printed is the sheet
abbrev pub PrintsSheet : Type 0
PrintsSheet = (s text : List ℕ) → Prints opening [] s text → text ≡ sheet s
