-- What the code promises of a sitting that goes in by value and comes back. Assumes nothing.
use Rattle.std.specs.Prelude.{ℕ, suc, ◌+◌, ◌≤◌, ◌<◌, ◌^◌, ◌≡◌, Bool, true, false, List, ◌⊎◌, length, drop, Option, Some, None}
use Rattle.listlaws.specs.Over.{over}
use Rattle.codes.specs.declared.TransportCodes.{TransportCodes}
use Rattle.player.specs.declared.Player.{Player}
use Rattle.player.specs.Player.{state_of, Valid}
use Rattle.turns.specs.declared.Playback.{Playback}
use Rattle.turns.specs.declared.Part.{Part}
use Rattle.turns.specs.declared.Part.TheVariants.{Item, Event}
use Rattle.turns.specs.declared.Sitting.{Sitting}
use Rattle.turns.specs.declared.Sitting.TheVariants.{Opening, Playing, Closing, Stuck, NoMore}
use Rattle.turns.specs.declared.Ended.{Ended}
use Rattle.turns.specs.declared.Turned.{Turned}
use Rattle.turns.specs.declared.Step.{Step}
use Rattle.sittings.specs.Courses.{Course, no_restart, restart_at}
use Rattle.sittings.specs.Windows.{BeingRead, the_item, the_event, Stage, opening, playing, closing, stuck, Turn, wants, went, turn, Goes}
use Rattle.sittings.specs.Windows as Windows

abbrev pub course_of : Playback → Course
course_of p = record { state = state_of p.player; transport = p.transport; waiting = p.waiting; index = p.index }

-- before the first event
abbrev pub first_playback : Player → TransportCodes → Playback
first_playback player transport = record { player = player; transport = transport; waiting = no_restart; index = 0 }

-- a restart waits for the next block
abbrev pub restarted : Playback → ℕ → Playback
restarted p frame = record { player = p.player; transport = p.transport; waiting = restart_at frame; index = p.index }

-- before the next event
abbrev pub next_sitting : Playback → Sitting
next_sitting p = Playing (record { player = p.player; transport = p.transport; waiting = p.waiting; index = p.index + 1 })

abbrev pub being_read : Part → BeingRead
being_read Item = the_item
being_read (Event index) = the_event index

abbrev pub stage_of : Sitting → Stage
stage_of Opening = opening
stage_of (Playing p) = playing (course_of p)
stage_of (Closing index) = closing index
stage_of (Stuck part) = stuck (being_read part)
stage_of NoMore = Windows.no_more

-- the index of the event that is read or comes next, 0 where there is none
abbrev pub index_in : Part → ℕ
index_in Item = 0
index_in (Event index) = index

abbrev pub index_of : Sitting → ℕ
index_of Opening = 0
index_of (Playing p) = p.index
index_of (Closing index) = index
index_of (Stuck part) = index_in part
index_of NoMore = 0

-- a sitting's player, where it has one, is one that calls have reached
abbrev pub ValidSitting : Sitting → Type 0
ValidSitting Opening = Unit {0}
ValidSitting (Playing p) = Valid p.player
ValidSitting (Closing index) = Unit {0}
ValidSitting (Stuck part) = Unit {0}
ValidSitting NoMore = Unit {0}

abbrev pub is_over : Sitting → Bool
is_over Opening = false
is_over (Playing p) = false
is_over (Closing index) = false
is_over (Stuck part) = false
is_over NoMore = true

abbrev pub place_after : Option ℕ → ℕ → ℕ
place_after (Some next) place = next
place_after None place = place

-- the bytes that the lines of a block need at most: 4,096 lines of 39 bytes
abbrev pub turn_room : ℕ
turn_room = 159744

-- the sitting after a turn that left t: t itself, or the stage that the turn ends in
abbrev pub settled : Option Ended → Sitting → Sitting
settled None t = t
settled (Some (Ended.Closing index)) t = Closing index
settled (Some (Ended.Stuck part)) t = Stuck part
settled (Some Ended.NoMore) t = NoMore

-- what a turn asks: a player, room behind `place`, and that the events can be counted
pub record Going (t : Sitting) (out : List ℕ) (place : ℕ) : Type 0 where
  pub valid : ValidSitting t
  pub room : place + turn_room ≤ length out
  pub few : suc (index_of t) < 2 ^ 64

-- From a sitting at the event `index`, and leaving t, the code goes on by this turn: r says so, and its text stands in the buffer from `place` on.
pub record Went (index : ℕ) (made : Turn) (out : List ℕ) (place : ℕ) (t : Sitting) (r : Turned) (out' : List ℕ) : Type 0 where
  pub text : List ℕ
  pub turn_is : made ≡ went text r.taken (stage_of (settled r.ended t))
  pub bytes : out' ≡ over out place text
  pub place_is : r.place ≡ place + length text
  pub room : place + length text ≤ length out
  pub counts : index_of (settled r.ended t) ≤ suc index
  pub valid : ValidSitting (settled r.ended t)

-- From the sitting t at the event `index` the code makes this turn: more bytes are wanted, and nothing has changed; or it goes on.
abbrev pub OneTurn : ℕ → Turn → Sitting → List ℕ → ℕ → Option Turned → Sitting → List ℕ → Type 0
OneTurn index made t out place None t' out' = (made ≡ wants) × (t' ≡ t) × (out' ≡ out)
OneTurn index made t out place (Some r) t' out' = Went index made out place t' r out'

-- the same of a turn that is not lent the sitting, whichever it is
abbrev pub Ends : ℕ → Turn → List ℕ → ℕ → Turned → List ℕ → Type 0
Ends index made out place r out' = (t : Sitting) → Went index made out place t r out'

abbrev pub OneEnd : ℕ → Turn → List ℕ → ℕ → Option Turned → List ℕ → Type 0
OneEnd index made out place r out' = (t : Sitting) → OneTurn index made t out place r t out'

-- After some turns, from the sitting t with the bytes l: what was printed stands in the buffer, and the rest of the bytes is still to be read.
pub record SomeTurns (t : Sitting) (l out : List ℕ) (r : Step) (out' : List ℕ) : Type 0 where
  pub text : List ℕ
  pub goes : Goes (stage_of t) l text (stage_of r.sitting) (drop r.taken l)
  pub bytes : out' ≡ over out 0 text
  pub written : r.written ≡ length text
  pub room : length text ≤ length out
  pub inside : r.taken ≤ length l
  pub ahead : r.full ≡ true → 0 < r.taken
  -- it stops where the buffer may be too short for the next turn, where nothing more is printed, or where more bytes are wanted
  pub stops : r.full ≡ false → (stage_of r.sitting ≡ Windows.no_more) ⊎ (turn (stage_of r.sitting) (drop r.taken l) ≡ wants)
  pub counts : index_of r.sitting + length (drop r.taken l) ≤ index_of t + length l
  pub valid : ValidSitting r.sitting

-- what some turns ask: a player, a buffer for one turn at least, and that the events can be counted
pub record Running (t : Sitting) (l out : List ℕ) : Type 0 where
  pub valid : ValidSitting t
  pub room : turn_room ≤ length out
  pub few : index_of t + length l + 1 < 2 ^ 64
