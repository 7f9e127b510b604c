-- A sitting as calls made one by one. Assumes nothing.
use Rattle.std.specs.Prelude.{ℕ, zero, suc, cond, List, [], ◌∷◌, ◌++◌, eqb, length, drop, Float}
use Rattle.codes.specs.declared.TransportCodes.{TransportCodes}
use Rattle.codes.specs.declared.RestartCodes.{RestartCodes}
use Rattle.calls.specs.State.{State}
use Rattle.calls.specs.Calls.{Call, bus, by_block, answer, accepts, step, after}
use Rattle.restart.specs.Heard.{Side}
use Rattle.restart.specs.Heard as Heard
use Rattle.fields.specs.Parser.{Parsed, read, fault}
use Rattle.codes.specs.declared.ItemCodes.{ItemCodes}
use Rattle.record.specs.Items.{transport_of}
use Rattle.record.specs.Records.{left_over}
use Rattle.item_calls.specs.Calls.{item_state}
use Rattle.sittings.specs.declared.Event.{Event}
use Rattle.sittings.specs.declared.Event.TheVariants.{Block, Restart, Bus, End}
use Rattle.sittings.specs.Events.{event}
use Rattle.sittings.specs.Courses.{no_restart, restart_at, moved_on, play_call}
use Rattle.sittings.specs.Sheets.{failed, missing}

-- ---- the events that bytes hold

-- how they stop: with the end, and nothing behind it; or with a fault, which has the index of the end or of the event that is not there
pub data Stop : Type 0 where
  whole : Stop
  faulty : ℕ → Stop

-- those before that
pub record Script : Type 0 where
  pub events : List Event
  pub stop : Stop

abbrev pub stopped : Stop → Script
stopped n = record { events = []; stop = n }

abbrev pub end_stop : List ℕ → Stop
end_stop [] = whole
end_stop (b ∷ l) = faulty left_over

-- the event e, and then those of `rest`, by the bytes l behind it
unfoldable pub script_on : (List ℕ → Script) → Event → List ℕ → Script
script_on rest (Block frames) l = record { events = Block frames ∷ (rest l).events; stop = (rest l).stop }
script_on rest (Restart frame) l = record { events = Restart frame ∷ (rest l).events; stop = (rest l).stop }
script_on rest (Bus k value) l = record { events = Bus k value ∷ (rest l).events; stop = (rest l).stop }
script_on rest End l = stopped (end_stop l)

unfoldable pub script_read : (List ℕ → Script) → List ℕ → Parsed Event → Script
script_read rest l (read e next) = script_on rest e (drop next l)
script_read rest l (fault n) = stopped (faulty n)

-- of the first `most`
unfoldable pub script_of : ℕ → List ℕ → Script
script_of zero l = stopped (faulty missing)
script_of (suc most) [] = stopped (faulty missing)
script_of (suc most) (b ∷ l) = script_read (script_of most) (b ∷ l) (event (b ∷ l) 0)

unfoldable pub script : List ℕ → Script
script l = script_of (length l) l

-- ---- the calls that events stand for: of each event one or none

-- from the transport t on, with a restart that waits. The transport moves on with each block; a restart is the next block's, and a later one replaces it.
unfoldable pub event_calls : TransportCodes → RestartCodes → List Event → List (List Call)
event_calls t waiting [] = []
event_calls t waiting (Block frames ∷ es) = (play_call t waiting frames ∷ []) ∷ event_calls (moved_on t frames) no_restart es
event_calls t waiting (Restart frame ∷ es) = [] ∷ event_calls t (restart_at frame) es
event_calls t waiting (Bus k value ∷ es) = (bus k value ∷ []) ∷ event_calls t waiting es
event_calls t waiting (End ∷ es) = [] ∷ event_calls t waiting es

-- all of them, one after the other
unfoldable pub flat : List (List Call) → List Call
flat [] = []
flat (cs ∷ rest) = cs ++ flat rest

-- ---- what the calls give, up to the first that is refused

-- the values of a call's frames, "read as its block's call leaves them"
abbrev pub call_frames : Side → State → Call → List Float
call_frames side p c = by_block [] c (Heard.read side p)

unfoldable pub shown : Side → State → List Call → List Float
shown side p [] = []
shown side p (c ∷ cs) = cond (accepts p c) (call_frames side p c ++ shown side (step p c) cs) []

-- the number of the first one that is refused, 0 where there is none
unfoldable pub first_refusal : State → List Call → ℕ
first_refusal p [] = 0
first_refusal p (c ∷ cs) = cond (accepts p c) (first_refusal (step p c) cs) (answer p c)

-- The line of the failing event: the first whose call is refused, and where there is none what stands in the place of the next one. `index` is that of the first event.
unfoldable pub last_line : State → ℕ → List (List Call) → Stop → List ℕ
last_line p index [] whole = []
last_line p index [] (faulty n) = failed index n
last_line p index (cs ∷ rest) stop = cond (eqb (first_refusal p cs) 0) (last_line (after p cs) (suc index) rest stop) (failed index (first_refusal p cs))

-- ---- of a sitting: an item i that is accepted, and the bytes l behind it

abbrev pub sitting_calls : ItemCodes → List ℕ → List (List Call)
sitting_calls i l = event_calls (transport_of i) no_restart (script l).events

-- the x or the y of every frame that it plays, from the item's player on
unfoldable pub printed : Side → ItemCodes → List ℕ → List Float
printed side i l = shown side (item_state i) (flat (sitting_calls i l))
