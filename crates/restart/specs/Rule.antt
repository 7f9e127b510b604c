-- The restart rule: demand 3 in the words of document 01, "The restart rule", clause by clause. It is proved in proofs/RestartRule.antt. Assumes nothing.
use Rattle.std.specs.Prelude.{ℕ, ◌<◌, min, ◌≡◌, ◌⊎◌, Bool, true, false, ◌&&◌, List, [], ◌∷◌, ◌++◌, length, get_or, take, drop, Float}
use Rattle.std.specs.Float.{nan}
use Rattle.shape.specs.declared.Shape.{Shape}
use Rattle.path.specs.declared.Path.{Path}
use Rattle.settings.specs.declared.choices.LfoType.TheVariants.{SampleAndHold}
use Rattle.settings.specs.declared.choices.Mode.{Mode}
use Rattle.settings.specs.declared.choices.Mode.TheVariants.{Restart, OneShot}
use Rattle.codes.specs.declared.ScaleCodes.{ScaleCodes}
use Rattle.settings.specs.declared.record.Settings.{Settings}
use Rattle.codes.specs.declared.SettingsCodes.{SettingsCodes}
use Rattle.codes.specs.declared.TransportCodes.{TransportCodes}
use Rattle.settings.specs.Codes.{transport_at}
use Rattle.clock.specs.Ready.{prepared_of}
use Rattle.bank.specs.Parts.{reaching}
use Rattle.slot.specs.Slot.{slot_curve}
use Rattle.curves.specs.Given.{is_yes}
use Rattle.codes.specs.declared.RestartCodes.{RestartCodes}
use Rattle.calls.specs.State.{State}
use Rattle.calls.specs.Calls.{Call, block, makes, made, answer, step, after, by_transport}
use Rattle.restart.specs.Heard.{Side, read, heard, window}

-- ---- a restart in a list of calls

-- "A restart is one that an accepted block carries": in a list of calls on the player `from`, the calls before the block, the block, and the calls behind it
pub record RestartFrom (from : State) : Type 0 where
  pub before : List Call
  pub transport : TransportCodes
  pub frames : ℕ
  pub restart : RestartCodes
  pub x : List Float
  pub y : List Float
  pub rest : List Call
  pub accepted : answer (after from before) (block transport frames restart x y) ≡ 0
  pub carried : restart.code ≡ 1

-- the random word after the first k frames of a block, "the generator's 64 bits, made from the seed and moved on by every draw"
abbrev pub word_after : State → TransportCodes → ℕ → ℕ → ℕ
word_after p c frames k =
    by_transport 0 (transport_at c) λ t.
    let s = p.lfo.settings in
    (reaching s (slot_curve s.kind p.lfo) (prepared_of s p.lfo.clock t frames).block frames p.voice k).source.rng

-- What is asked about, of one list: the player that the restart's block gets, the transports that blocks get throughout, and the random word at the restart.
pub record AtRestart : Type 0 where
  pub state : State
  pub transports : List TransportCodes
  pub word : ℕ

module _ {from : State} (r : RestartFrom from) where
  abbrev pub restart_block : Call
  restart_block = block r.transport r.frames r.restart r.x r.y

  -- the list of calls; every list with a restart in it is such a one (`every_restart` of the proof)
  abbrev pub calls_of : List Call
  calls_of = r.before ++ (restart_block ∷ r.rest)

  -- the player that the block gets, and the one that it leaves
  abbrev pub state_at : State
  state_at = after from r.before

  abbrev pub state_past : State
  state_past = step state_at restart_block

  -- "at its frame or, where that lies beyond the end, at the end"
  abbrev pub frame_at : ℕ
  frame_at = min r.restart.frame r.frames

  -- "Frames are counted from the first one played at or after it, in that block or a later one, through all accepted blocks; a block of no frames adds none."
  unfoldable pub frames_from : Side → List Float
  frames_from side = drop frame_at (read side state_at r.transport r.frames r.restart r.x r.y) ++ heard side state_past r.rest

  -- ""Throughout" means every accepted block from the restart's to the next restart or edit, the block of that next restart included."
  unfoldable pub throughout : List TransportCodes
  throughout = r.transport ∷ window state_past r.rest

  -- the random word after "every draw up to the restart", those in its own block too
  unfoldable pub word_at : ℕ
  word_at = word_after state_at r.transport r.frames frame_at

  abbrev pub at_restart : AtRestart
  at_restart = record { state = state_at; transports = throughout; word = word_at }

-- ---- what is asked of the two lists

-- "in mode Restart or One-shot"
abbrev pub Restarts : Mode → Type 0
Restarts mode = (mode ≡ Restart) ⊎ (mode ≡ OneShot)

-- "after the clamping, keeping and sorting ruled here": of a stored shape the points that are kept; their curves give the strengths
pub record SameShape (a b : Shape) : Type 0 where
  pub count : a.len ≡ b.len
  pub points : take a.len a.points ≡ take b.len b.points
  pub loopback : a.loopback ≡ b.loopback

-- and of a stored path; its points give the legs, and the legs the times
pub record SamePath (p q : Path) : Type 0 where
  pub count : p.len ≡ q.len
  pub points : take p.len p.points ≡ take q.len q.points
  pub closed : p.closed ≡ q.closed

-- "the two players have equal settings, curve, supplied numbers and stored buses". The one supplied number is the smoothing coefficient, which is one of the settings.
pub record Equal (p q : State) : Type 0 where
  pub settings : p.lfo.settings ≡ q.lfo.settings
  pub shape : SameShape p.lfo.shape q.lfo.shape
  pub path : SamePath p.lfo.path q.lfo.path
  pub buses : p.lfo.buses ≡ q.lfo.buses

-- "sample rate, tempo, bar, swing and scale"; "Nothing else of the transport need be equal"
pub record TransportFields : Type 0 where
  pub sample_rate : Float
  pub tempo : Float
  pub beats_per_bar : Float
  pub swing : Float
  pub scale : ScaleCodes

abbrev pub transport_fields : TransportCodes → TransportFields
transport_fields c = record { sample_rate = c.sample_rate; tempo = c.tempo; beats_per_bar = c.beats_per_bar; swing = c.swing; scale = c.scale }

-- "Song lock is in force when it is set and the transport plays."
abbrev pub song_lock_in_force : Settings → TransportCodes → Bool
song_lock_in_force s c = s.song_lock && is_yes c.playing

-- "song lock is not in force and both get one and the same sample rate, tempo, bar, swing and scale"
pub record Gets (s : Settings) (fields : TransportFields) (c : TransportCodes) : Type 0 where
  pub same : transport_fields c ≡ fields
  pub unlocked : song_lock_in_force s c ≡ false

-- every one of a list
pub data Every (Q : TransportCodes → Type 0) : List TransportCodes → Type 0 where
  none : Every Q []
  more : {c : TransportCodes} {l : List TransportCodes} → Q c → Every Q l → Every Q (c ∷ l)

pub record Hypotheses (a b : AtRestart) (fields : TransportFields) : Type 0 where
  -- "Take in each list any restart in mode Restart or One-shot"
  pub mode : Restarts a.state.lfo.settings.mode
  -- "at which the two players have equal settings, curve, supplied numbers and stored buses"
  pub equal : Equal a.state b.state
  -- "from the restart's block on song lock is not in force and both get one and the same sample rate, tempo, bar, swing and scale, unchanged throughout"
  pub gets₁ : Every (Gets a.state.lfo.settings fields) a.transports
  pub gets₂ : Every (Gets b.state.lfo.settings fields) b.transports
  -- "Sample-and-Hold also needs equal random words at the restart."
  pub words : a.state.lfo.settings.kind ≡ SampleAndHold → a.word ≡ b.word

-- ---- the rule

-- "a player just made", "with any seed": its making was accepted
pub record JustMade : Type 0 where
  pub codes : SettingsCodes
  pub seed : ℕ
  pub accepted : makes codes ≡ true

abbrev pub new_player : JustMade → State
new_player p = made p.codes p.seed

-- "Take any two lists of calls, each from a player just made", "in each list any restart": "whatever came before and whatever block lengths each gets, for every n the n-th frame
-- from the restart has the same x and y in both, if both play it before the next restart or edit."
abbrev pub RestartRule : Type 0
RestartRule =
    (p₁ p₂ : JustMade) (r₁ : RestartFrom (new_player p₁)) (r₂ : RestartFrom (new_player p₂)) (fields : TransportFields) → Hypotheses (at_restart r₁) (at_restart r₂) fields
    → (side : Side) (n : ℕ) → n < length (frames_from r₁ side) → n < length (frames_from r₂ side) → get_or (frames_from r₁ side) n nan ≡ get_or (frames_from r₂ side) n nan
