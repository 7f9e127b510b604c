-- The restart rule of voices: `RestartRule` of crate `restart`, where a restart is one asked for. It is proved in proofs/VoiceRule.antt. Assumes nothing.
use Rattle.std.specs.Prelude.{ℕ, ◌<◌, min, ◌≡◌, true, cond, List, [], ◌∷◌, ◌++◌, length, get_or, drop, Float, Some}
use Rattle.std.specs.Float.{nan}
use Rattle.codes.specs.declared.SettingsCodes.{SettingsCodes}
use Rattle.codes.specs.declared.TransportCodes.{TransportCodes}
use Rattle.calls.specs.State.{State}
use Rattle.restart.specs.Heard.{Side, x_side, y_side, frames_up_to, blocks_up_to}
use Rattle.restart.specs.Rule.{word_after, AtRestart, TransportFields, Hypotheses}
use Rattle.ensemble_calls.specs.Ensembles.{EnsembleState}
use Rattle.ensemble_calls.specs.Calls.{Call, block, is_edit, by_block, answer, accepts, makes, made, step, after}
use Rattle.ensemble_calls.specs.Heard.{Heard, heard_of}
use Rattle.ensemble_calls.specs.AsPlayer.{player_at, pending_at}

-- ---- what is heard of a voice up to its next restart, or the next edit

abbrev pub side_of : Side → Heard → List Float
side_of x_side h = h.x
side_of y_side h = h.y

-- the frames, "through all accepted blocks". An accepted edit is the end, so also one that switches shared; a request and a phase read are not
unfoldable pub heard : Side → ℕ → EnsembleState → List Call → List Float
heard side v e [] = []
heard side v e (c ∷ cs) =
    let later = heard side v (step e c) cs in
    cond (accepts e c) (by_block (cond (is_edit c) [] later) c λ t n x y. frames_up_to (pending_at e v) n (side_of side (heard_of v e t n x y)) later) later

-- the transports of the same blocks
unfoldable pub window : ℕ → EnsembleState → List Call → List TransportCodes
window v e [] = []
window v e (c ∷ cs) =
    let later = window v (step e c) cs in
    cond (accepts e c) (by_block (cond (is_edit c) [] later) c λ t n x y. blocks_up_to (pending_at e v) t later) later

-- ---- a restart of a voice in a list of calls

-- An accepted block for which a restart waits: with shared off one asked of voice v, with shared on the greatest asked of any. In a list of calls on the ensemble `from`, the calls
-- before the block, the block, and the calls behind it.
pub record RestartOf (v : ℕ) (from : EnsembleState) : Type 0 where
  pub before : List Call
  pub transport : TransportCodes
  pub frames : ℕ
  pub x : List Float
  pub y : List Float
  pub rest : List Call
  pub accepted : answer (after from before) (block transport frames x y) ≡ 0
  pub frame : ℕ
  pub waits : pending_at (after from before) v ≡ Some frame

module _ {v : ℕ} {from : EnsembleState} (r : RestartOf v from) where
  abbrev pub restart_block : Call
  restart_block = block r.transport r.frames r.x r.y

  -- the list of calls; every list with a restart in it is such a one (`every_restart` of the proof)
  abbrev pub calls_of : List Call
  calls_of = r.before ++ (restart_block ∷ r.rest)

  -- the ensemble that the block gets, and the one that it leaves
  abbrev pub ensemble_at : EnsembleState
  ensemble_at = after from r.before

  abbrev pub ensemble_past : EnsembleState
  ensemble_past = step ensemble_at restart_block

  -- the voice as a player there
  abbrev pub state_at : State
  state_at = player_at ensemble_at v

  -- "at its frame or, where that lies beyond the end, at the end"
  abbrev pub frame_at : ℕ
  frame_at = min r.frame r.frames

  -- the voice's frames from the restart on, read as the calls leave them
  unfoldable pub frames_from : Side → List Float
  frames_from side = drop frame_at (side_of side (heard_of v ensemble_at r.transport r.frames r.x r.y)) ++ heard side v ensemble_past r.rest

  -- ""Throughout" means every accepted block from the restart's to the next restart or edit"
  unfoldable pub throughout : List TransportCodes
  throughout = r.transport ∷ window v ensemble_past r.rest

  abbrev pub at_restart : AtRestart
  at_restart = record { state = state_at; transports = throughout; word = word_after state_at r.transport r.frames frame_at }

-- ---- the rule

-- a voice of an ensemble just made, with any seed: its making was accepted
pub record VoiceMade : Type 0 where
  pub codes : SettingsCodes
  pub shared : ℕ
  pub count : ℕ
  pub seed : ℕ
  pub accepted : makes codes shared count ≡ true
  pub voice : ℕ
  pub in_count : voice < count

abbrev pub new_ensemble : VoiceMade → EnsembleState
new_ensemble p = made p.codes p.shared p.count p.seed

-- "for every n the n-th frame from the restart has the same x and y in both, if both play it before the next restart or edit": of two voices, of two ensembles or of one, under the
-- hypotheses of `RestartRule`, whatever came before, shared on or off
abbrev pub VoiceRestartRule : Type 0
VoiceRestartRule =
    (p₁ p₂ : VoiceMade) (r₁ : RestartOf p₁.voice (new_ensemble p₁)) (r₂ : RestartOf p₂.voice (new_ensemble p₂)) (fields : TransportFields)
    → Hypotheses (at_restart r₁) (at_restart r₂) fields
    → (side : Side) (n : ℕ) → n < length (frames_from r₁ side) → n < length (frames_from r₂ side) → get_or (frames_from r₁ side) n nan ≡ get_or (frames_from r₂ side) n nan
