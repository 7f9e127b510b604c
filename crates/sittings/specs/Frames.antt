-- How many frames a sitting plays, from its bytes alone with nothing played: what is accepted depends on no value. Assumes nothing.
use Rattle.std.specs.Prelude.{ℕ, ◌+◌, cond, List, [], ◌∷◌, eqb, drop}
use Rattle.codes.specs.declared.ItemCodes.{ItemCodes}
use Rattle.codes.specs.declared.RestartCodes.{RestartCodes}
use Rattle.codes.specs.declared.TransportCodes.{TransportCodes}
use Rattle.questions.specs.Questions.{first_no, bus_questions, block_questions}
use Rattle.fields.specs.Parser.{Parsed, read, fault}
use Rattle.record.specs.Items.{transport_of}
use Rattle.record.specs.Records.{accepted_item}
use Rattle.sittings.specs.declared.Event.{Event}
use Rattle.sittings.specs.declared.Event.TheVariants.{Block, Restart, Bus, End}
use Rattle.sittings.specs.Courses.{no_restart, restart_at, moved_on}
use Rattle.sittings.specs.OneByOne.{script}

-- those of events up to the first that fails, from the transport t on, with a restart that waits, n frames having been played
unfoldable pub event_frames : ℕ → TransportCodes → RestartCodes → List Event → ℕ
event_frames n t waiting [] = 0
event_frames n t waiting (Block frames ∷ es) =
    cond (eqb (first_no (block_questions n t frames waiting 4096 4096)) 0) (frames + event_frames (n + frames) (moved_on t frames) no_restart es) 0
event_frames n t waiting (Restart frame ∷ es) = event_frames n t (restart_at frame) es
event_frames n t waiting (Bus k value ∷ es) = cond (eqb (first_no (bus_questions k value)) 0) (event_frames n t waiting es) 0
event_frames n t waiting (End ∷ es) = event_frames n t waiting es

-- a refused item plays none
abbrev pub item_frames : List ℕ → Parsed ItemCodes → ℕ
item_frames s (read i next) = event_frames 0 (transport_of i) no_restart (script (drop next s)).events
item_frames s (fault n) = 0

unfoldable pub frames_of : List ℕ → ℕ
frames_of s = item_frames s (accepted_item s 0)
