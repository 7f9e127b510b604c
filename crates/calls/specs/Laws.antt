-- What document 01 says of every call, as statements about the definitions of Calls. They are proved in proofs/. Assumes nothing.
use Rattle.std.specs.Prelude.{ℕ, ◌+◌, ◌≡◌, true, false, cond, List, [], ◌∷◌, ◌++◌, length, get_or, take, drop, Float, Option, Some, None}
use Rattle.std.specs.Float.{nan}
use Rattle.std.specs.Float.Ieee.{eq}
use Rattle.codes.specs.declared.SettingsCodes.{SettingsCodes}
use Rattle.settings.specs.declared.choices.LfoType.TheVariants.{Drawn}
use Rattle.settings.specs.declared.record.Transport.{Transport}
use Rattle.codes.specs.declared.TransportCodes.{TransportCodes}
use Rattle.settings.specs.Codes.{transport_at}
use Rattle.shape.specs.Shapes.{modulated_of}
use Rattle.position.specs.Rest.{finished_of}
use Rattle.clock.specs.Free.{anchored_clock}
use Rattle.clock.specs.Ready.{pace_at, lock_at}
use Rattle.voice.specs.Frame.{Frame}
use Rattle.codes.specs.declared.RestartCodes.{RestartCodes}
use Rattle.questions.specs.Questions.{Posed, first_no, block_questions}
use Rattle.calls.specs.State.{State}
use Rattle.calls.specs.Blocks.{pending_of, values, end_count, finished}
use Rattle.calls.specs.Calls.{Call, bus, phase, block, by_block, questions, answer, accepts, made, step, after, buffer}

-- ---- the answer: "the first "no" gives the number .. Success is 0"

abbrev pub AllYes : List Posed → Type 0
AllYes [] = Unit
AllYes (q ∷ qs) = (q.1 ≡ true) × AllYes qs

-- the question numbered n is answered no, and each one before it yes
pub record FirstNo (n : ℕ) (qs : List Posed) : Type 0 where
  pub before : List Posed
  pub rest : List Posed
  pub here : qs ≡ before ++ ((n, false) ∷ rest)
  pub yes : AllYes before

pub record Answers (p : State) (c : Call) : Type 0 where
  pub success : AllYes (questions p c) → answer p c ≡ 0
  pub only : answer p c ≡ 0 → AllYes (questions p c)
  pub refusal : (n : ℕ) → FirstNo n (questions p c) → answer p c ≡ n

abbrev pub AnswerLaw : Type 0
AnswerLaw = (p : State) (c : Call) → Answers p c

-- ---- what stays

-- "player and buffers keep every bit": of a call that is refused
abbrev pub RefusedPlayer : Type 0
RefusedPlayer = (p : State) (c : Call) → accepts p c ≡ false → step p c ≡ p

abbrev pub RefusedBuffer : Type 0
RefusedBuffer =
    (p : State) (c : TransportCodes) (frames : ℕ) (restart : RestartCodes) (x y : List Float) (f : Frame → Float) (before : List Float)
    → accepts p (block c frames restart x y) ≡ false → buffer p c frames restart x y f before ≡ before

-- reading the phase changes no player
abbrev pub PhaseKeeps : Type 0
PhaseKeeps = (p : State) (c : TransportCodes) → step p (phase c) ≡ p

-- ---- a block that is accepted

module _ (p : State) (c : TransportCodes) (frames : ℕ) (restart : RestartCodes) (x y : List Float) where
  -- of a buffer, of which f is the frame's value: exactly `frames` values, and then what it held, "to the last element"
  pub record Writes (f : Frame → Float) (before : List Float) : Type 0 where
    pub t : Transport
    pub known : transport_at c ≡ Some t
    pub count : length (values p t frames (pending_of restart) f) ≡ frames
    pub first : take frames (buffer p c frames restart x y f before) ≡ values p t frames (pending_of restart) f
    pub rest : drop frames (buffer p c frames restart x y f before) ≡ drop frames before
    pub long : length (buffer p c frames restart x y f before) ≡ length before

  -- of both
  pub record WritesBoth : Type 0 where
    pub to_x : Writes (λ f. f.x) x
    pub to_y : Writes (λ f. f.y) y

abbrev pub BlockWrites : Type 0
BlockWrites =
    (p : State) (c : TransportCodes) (frames : ℕ) (restart : RestartCodes) (x y : List Float)
    → accepts p (block c frames restart x y) ≡ true → WritesBoth p c frames restart x y

-- with no song lock in force the free clock counts the block's frames on, from where it is anchored
abbrev pub ClockCounts : Type 0
ClockCounts =
    (p : State) (c : TransportCodes) (frames : ℕ) (restart : RestartCodes) (x y : List Float) (t : Transport)
    → accepts p (block c frames restart x y) ≡ true → transport_at c ≡ Some t → lock_at p.lfo.settings t ≡ None
    → (step p (block c frames restart x y)).lfo.clock.n ≡ (anchored_clock p.lfo.clock (pace_at p.lfo.settings t).inc).n + frames

-- finished goes by "the modulated x of the loopback point of a Drawn curve": of its point i, moved by the buses
abbrev pub modulated_x : State → ℕ → Float
modulated_x p i = get_or (modulated_of p.lfo.shape.points p.lfo.shape.len p.lfo.buses).xs i nan

abbrev pub FinishedByLoopback : Type 0
FinishedByLoopback =
    (p : State) (t : Transport) (frames : ℕ) (at : Option ℕ) (i : ℕ) → p.lfo.settings.kind ≡ Drawn → p.lfo.shape.loopback ≡ Some i
    → finished p t frames at ≡ finished_of Drawn p.lfo.settings.mode p.lfo.settings.direction (Some (modulated_x p i)) (end_count p t frames at)

-- ---- "the frames played since the player was made"

-- those of one call: a block's, where it is accepted
abbrev pub frames_of : State → Call → ℕ
frames_of p c = by_block 0 c λ t frames restart x y. cond (accepts p c) frames 0

abbrev pub CallCounts : Type 0
CallCounts = (p : State) (c : Call) → (step p c).played ≡ p.played + frames_of p c

-- those of a list of calls
unfoldable pub frames_in : State → List Call → ℕ
frames_in p [] = 0
frames_in p (c ∷ cs) = frames_of p c + frames_in (step p c) cs

-- of a player just made, and any calls on it: they are what it has played, and what question 8 is put about
pub record Counts (codes : SettingsCodes) (seed : ℕ) (calls : List Call) : Type 0 where
  pub played_is : (after (made codes seed) calls).played ≡ frames_in (made codes seed) calls
  pub asked : (c : TransportCodes) (frames : ℕ) (restart : RestartCodes) (x y : List Float)
      → answer (after (made codes seed) calls) (block c frames restart x y)
      ≡ first_no (block_questions (frames_in (made codes seed) calls) c frames restart (length x) (length y))

abbrev pub ListCounts : Type 0
ListCounts = (codes : SettingsCodes) (seed : ℕ) (calls : List Call) → Counts codes seed calls

-- ---- one bus

pub record BusSet (p : State) (k : ℕ) (value : Float) : Type 0 where
  -- "A bus set to a value equal to the stored one, 0 and −0 included, keeps the stored bits": `zeros` of Vectors
  pub equal : eq (get_or p.lfo.buses k nan) value ≡ true → step p (bus k value) ≡ p
  -- any other value is stored
  pub other : accepts p (bus k value) ≡ true → eq (get_or p.lfo.buses k nan) value ≡ false → get_or (step p (bus k value)).lfo.buses k nan ≡ value
  -- and the other buses stay
  pub others : (j : ℕ) → (j ≡ k → ⊥) → get_or (step p (bus k value)).lfo.buses j nan ≡ get_or p.lfo.buses j nan
  pub long : length (step p (bus k value)).lfo.buses ≡ 16

abbrev pub BusLaw : Type 0
BusLaw = (p : State) (k : ℕ) (value : Float) → length p.lfo.buses ≡ 16 → BusSet p k value
