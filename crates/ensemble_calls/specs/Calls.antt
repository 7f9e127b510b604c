-- The calls on an ensemble: the number that each answers, the ensemble that it leaves, what a block writes and says, and the phase of a voice. Assumes nothing.
use Rattle.std.specs.Prelude.{ℕ, ◌*◌, Bool, true, false, cond, List, [], ◌∷◌, ◌++◌, map, eqb, length, drop, replicate, Float}
use Rattle.codes.specs.declared.SettingsCodes.{SettingsCodes}
use Rattle.settings.specs.declared.record.Transport.{Transport}
use Rattle.codes.specs.declared.TransportCodes.{TransportCodes}
use Rattle.settings.specs.Codes.{transport_at}
use Rattle.voice.specs.Frame.{Frame}
use Rattle.codes.specs.declared.ShapeCodes.{ShapeCodes}
use Rattle.codes.specs.declared.PathCodes.{PathCodes}
use Rattle.curves.specs.Given.{is_yes}
use Rattle.questions.specs.Questions.{Posed, first_no, shape_questions, path_questions, bus_questions}
use Rattle.calls.specs.Blocks.{phase_at}
use Rattle.calls.specs.Calls as player
use Rattle.calls.specs.Calls.{by_transport}
use Rattle.ensemble_calls.specs.Ensembles.{EnsembleState, seed_of, server_index, new_ensemble, record_at, with_page, asked_ensemble}
use Rattle.ensemble_calls.specs.Blocks.{player_of, playing, played_ensemble, voice_finished, ensemble_values}
use Rattle.ensemble_calls.specs.Questions.{count_question, make_questions, page_questions, trigger_questions, voice_phase_questions, play_questions}

-- A call on an ensemble, with all that it is handed: settings with the code of shared, a voice's number and the frame of its restart, and for a block the two buffers as they are before it.
pub data Call : Type 0 where
  settings : SettingsCodes → ℕ → Call
  shape : ShapeCodes → Call
  path : PathCodes → Call
  bus : ℕ → Float → Call
  trigger : ℕ → ℕ → Call
  phase : ℕ → TransportCodes → Call
  block : TransportCodes → ℕ → List Float → List Float → Call

-- does it set something: settings, shared among them, shape, path or a bus
abbrev pub is_edit : Call → Bool
is_edit (settings c shared) = true
is_edit (shape c) = true
is_edit (path c) = true
is_edit (bus k value) = true
is_edit (trigger v at) = false
is_edit (phase v t) = false
is_edit (block t frames x y) = false

-- what f makes of a block; of any other call u
abbrev pub by_block : {A : Type 0} → A → Call → (TransportCodes → ℕ → List Float → List Float → A) → A
by_block u (settings c shared) f = u
by_block u (shape c) f = u
by_block u (path c) f = u
by_block u (bus k value) f = u
by_block u (trigger v at) f = u
by_block u (phase v t) f = u
by_block u (block t frames x y) f = f t frames x y

-- the questions that are put to it
unfoldable pub questions : EnsembleState → Call → List Posed
questions e (settings c shared) = page_questions c shared
questions e (shape c) = shape_questions true c
questions e (path c) = path_questions true c
questions e (bus k value) = bus_questions k value
questions e (trigger v at) = trigger_questions (length e.voices) v
questions e (phase v t) = voice_phase_questions (length e.voices) v t
questions e (block t frames x y) = play_questions (length e.voices) e.played t frames (length x) (length y)

unfoldable pub answer : EnsembleState → Call → ℕ
answer e c = first_no (questions e c)

abbrev pub accepts : EnsembleState → Call → Bool
accepts e c = eqb (answer e c) 0

-- ---- making an ensemble

abbrev pub makes : SettingsCodes → ℕ → ℕ → Bool
makes c shared count = eqb (first_no (make_questions c shared count)) 0

-- the number of voices; where it is refused, two
unfoldable pub count_for : ℕ → ℕ
count_for count = cond (count_question count).1 count 2

-- the page of a player just made; the ensemble that comes with a refusal is not to be used
unfoldable pub made : SettingsCodes → ℕ → ℕ → ℕ → EnsembleState
made c shared count seed = new_ensemble (player.made c (seed_of seed server_index)) (is_yes shared) (count_for count) seed

-- ---- the ensemble that a call leaves

-- with the page that an accepted edit of a player leaves
abbrev pub edited : EnsembleState → Bool → player.Call → EnsembleState
edited e shared c = with_page e (player.accepted (player_of e e.server) c).lfo shared

-- where it is accepted
unfoldable pub accepted : EnsembleState → Call → EnsembleState
accepted e (settings c shared) = edited e (is_yes shared) (player.settings c)
accepted e (shape c) = edited e e.shared (player.shape c)
accepted e (path c) = edited e e.shared (player.path c)
accepted e (bus k value) = edited e e.shared (player.bus k value)
accepted e (trigger v at) = asked_ensemble e v at
accepted e (phase v t) = e
accepted e (block c frames x y) = by_transport e (transport_at c) λ t. played_ensemble e t frames

-- "player and buffers keep every bit" where it is refused; so a request waits for the next accepted block
unfoldable pub step : EnsembleState → Call → EnsembleState
step e c = cond (accepts e c) (accepted e c) e

-- the ensemble after a list of calls: each gets the ensemble as the last one left it
unfoldable pub after : EnsembleState → List Call → EnsembleState
after e [] = e
after e (c ∷ cs) = after (step e c) cs

-- ---- what a block leaves in a buffer: frames × voices values, and then what it held

unfoldable pub played : EnsembleState → TransportCodes → ℕ → (Frame → Float) → List Float → List Float
played e c frames f before = by_transport before (transport_at c) λ t. ensemble_values e t frames f ++ drop (frames * length e.voices) before

-- the buffer x or y, of which f is the frame's value and `before` what it held
unfoldable pub buffer : EnsembleState → TransportCodes → ℕ → List Float → List Float → (Frame → Float) → List Float → List Float
buffer e c frames x y f before = cond (accepts e (block c frames x y)) (played e c frames f before) before

-- ---- what a block says: finished, for each voice; a block that is refused says no

abbrev pub none_finished : EnsembleState → List Bool
none_finished e = replicate (length e.voices) false

unfoldable pub finished_by : EnsembleState → TransportCodes → ℕ → List Float → List Float → List Bool
finished_by e c frames x y =
    cond (accepts e (block c frames x y)) (by_transport (none_finished e) (transport_at c) λ t. map (voice_finished e t frames) e.voices) (none_finished e)

-- ---- the phase of voice v, 0 to 1, at the transport t

unfoldable pub voice_phase : EnsembleState → ℕ → Transport → Float
voice_phase e v t = phase_at (player_of e (playing e (record_at e v))) t
