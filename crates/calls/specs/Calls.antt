-- The calls on a player: the number that each answers, the player that it leaves, and what a block writes. Assumes nothing.
use Rattle.std.specs.Prelude.{ℕ, Bool, true, false, cond, List, [], ◌∷◌, ◌++◌, eqb, length, drop, Float, None, Option, Some}
use Rattle.settings.specs.declared.record.Settings.{Settings}
use Rattle.codes.specs.declared.SettingsCodes.{SettingsCodes}
use Rattle.settings.specs.declared.record.Transport.{Transport}
use Rattle.codes.specs.declared.TransportCodes.{TransportCodes}
use Rattle.settings.specs.Codes.{settings_at, transport_at}
use Rattle.settings.specs.Records.{default_settings}
use Rattle.voice.specs.Frame.{Frame}
use Rattle.codes.specs.declared.ShapeCodes.{ShapeCodes}
use Rattle.codes.specs.declared.PathCodes.{PathCodes}
use Rattle.curves.specs.Given.{given_shape, given_path}
use Rattle.codes.specs.declared.RestartCodes.{RestartCodes}
use Rattle.questions.specs.Questions.{Posed, first_no, settings_questions, shape_questions, path_questions, bus_questions, phase_questions, block_questions}
use Rattle.calls.specs.State.{State, new_state, with_settings, with_shape, with_path, with_bus}
use Rattle.calls.specs.Blocks.{pending_of, played_state, values}

-- A call on a player, with all that it is handed. A block has the two buffers as they are before it.
pub data Call : Type 0 where
  settings : SettingsCodes → Call
  shape : ShapeCodes → Call
  path : PathCodes → Call
  bus : ℕ → Float → Call
  phase : TransportCodes → Call
  block : TransportCodes → ℕ → RestartCodes → List Float → List Float → Call

-- does it set something: "An edit is an accepted call that sets settings, shape, path or a bus"
abbrev pub is_edit : Call → Bool
is_edit (settings c) = true
is_edit (shape c) = true
is_edit (path c) = true
is_edit (bus k value) = true
is_edit (phase t) = false
is_edit (block t frames restart x y) = false

-- what f makes of a block; of any other call u
abbrev pub by_block : {A : Type 0} → A → Call → (TransportCodes → ℕ → RestartCodes → List Float → List Float → A) → A
by_block u (settings c) f = u
by_block u (shape c) f = u
by_block u (path c) f = u
by_block u (bus k value) f = u
by_block u (phase t) f = u
by_block u (block t frames restart x y) f = f t frames restart x y

-- the questions that are put to it
unfoldable pub questions : State → Call → List Posed
questions p (settings c) = settings_questions c
questions p (shape c) = shape_questions true c
questions p (path c) = path_questions true c
questions p (bus k value) = bus_questions k value
questions p (phase t) = phase_questions t
questions p (block t frames restart x y) = block_questions p.played t frames restart (length x) (length y)

unfoldable pub answer : State → Call → ℕ
answer p c = first_no (questions p c)

abbrev pub accepts : State → Call → Bool
accepts p c = eqb (answer p c) 0

-- ---- what is known of codes; where a code is not known, u

abbrev pub by_settings : {A : Type 0} → A → Option Settings → (Settings → A) → A
by_settings u (Some s) f = f s
by_settings u None f = u

abbrev pub by_transport : {A : Type 0} → A → Option Transport → (Transport → A) → A
by_transport u (Some t) f = f t
by_transport u None f = u

-- ---- making a player

abbrev pub makes : SettingsCodes → Bool
makes c = eqb (first_no (settings_questions c)) 0

-- of a making that is refused: a player with the default settings
abbrev pub no_player : ℕ → State
no_player seed = new_state default_settings seed

unfoldable pub made : SettingsCodes → ℕ → State
made c seed = cond (makes c) (by_settings (no_player seed) (settings_at c) (λ s. new_state s seed)) (no_player seed)

-- ---- the player that a call leaves

-- where it is accepted
unfoldable pub accepted : State → Call → State
accepted p (settings c) = by_settings p (settings_at c) (with_settings p)
accepted p (shape c) = with_shape p (given_shape c)
accepted p (path c) = with_path p (given_path c)
accepted p (bus k value) = with_bus p k value
accepted p (phase t) = p
accepted p (block c frames restart x y) = by_transport p (transport_at c) λ t. played_state p t frames (pending_of restart)

-- "player and buffers keep every bit" where it is refused
unfoldable pub step : State → Call → State
step p c = cond (accepts p c) (accepted p c) p

-- the player after a list of calls: "Every call gets the player as the last one returned or left it"
unfoldable pub after : State → List Call → State
after p [] = p
after p (c ∷ cs) = after (step p c) cs

-- ---- what a block leaves in a buffer: one value of each frame, and then what it held

unfoldable pub played : State → TransportCodes → ℕ → RestartCodes → (Frame → Float) → List Float → List Float
played p c frames restart f before = by_transport before (transport_at c) λ t. values p t frames (pending_of restart) f ++ drop frames before

-- the buffer x or y, of which f is the frame's value and `before` what it held
unfoldable pub buffer : State → TransportCodes → ℕ → RestartCodes → List Float → List Float → (Frame → Float) → List Float → List Float
buffer p c frames restart x y f before = cond (accepts p (block c frames restart x y)) (played p c frames restart f before) before
