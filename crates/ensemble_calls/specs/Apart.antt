-- What a voice of an ensemble plays depends on nothing of another voice, in the words of document 02, W-205. Proved in proofs/NonInterference.antt and proofs/Idle.antt. Assumes nothing.
use Rattle.std.specs.Prelude.{ℕ, ◌<◌, ◌≡◌, true, false, List, eqb, length}
use Rattle.ensemble_calls.specs.Ensembles.{EnsembleState, record_at}
use Rattle.ensemble_calls.specs.Calls.{Call, step, after}
use Rattle.ensemble_calls.specs.Heard.{plays, seen}

-- "the common page, curves, buses and clock"; whether one voice serves all is on the page
pub record SamePage (e d : EnsembleState) : Type 0 where
  pub lfo : e.lfo ≡ d.lfo
  pub shared : e.shared ≡ d.shared

-- "What a voice plays may depend on the common page, curves, buses and clock, the transport, the block's length, and its own record and restarts, and on nothing of another voice":
-- voice v of one ensemble and voice w of another that have these alike, at the start and along any two lists of calls, play the same values, are finished alike and end with one record.
abbrev pub NonInterference : Type 0
NonInterference =
    (e d : EnsembleState) (v w : ℕ) → v < length e.voices → w < length d.voices → SamePage e d → record_at e v ≡ record_at d w
    → (calls₁ calls₂ : List Call) → seen (eqb v) e calls₁ ≡ seen (eqb w) d calls₂
    → (plays false v e calls₁ ≡ plays false w d calls₂) × SamePage (after e calls₁) (after d calls₂) × (record_at (after e calls₁) v ≡ record_at (after d calls₂) w)

-- "with shared on all play the same values instead": what any two voices play then is the same, and depends on the page, the serving voice's record and the restarts asked of any voice
abbrev pub SharedValues : Type 0
SharedValues =
    (e d : EnsembleState) (v w : ℕ) → v < length e.voices → w < length d.voices → SamePage e d → e.server ≡ d.server
    → (calls₁ calls₂ : List Call) → seen (λ u. true) e calls₁ ≡ seen (λ u. true) d calls₂
    → (plays true v e calls₁ ≡ plays true w d calls₂) × SamePage (after e calls₁) (after d calls₂) × ((after e calls₁).server ≡ (after d calls₂).server)

-- so in one ensemble all voices play the same
abbrev pub AllAlike : Type 0
AllAlike = (e : EnsembleState) (calls : List Call) (v w : ℕ) → v < length e.voices → w < length e.voices → plays true v e calls ≡ plays true w e calls

-- "one voice serves all": with shared on no call moves the voice of a record, and with shared off none moves the serving one; either goes on later from where it stood. A block clears the requests of both
abbrev pub Idle : Type 0
Idle =
    (e : EnsembleState) (c : Call)
    → (e.shared ≡ true → (v : ℕ) → v < length e.voices → (record_at (step e c) v).voice ≡ (record_at e v).voice) × (e.shared ≡ false → (step e c).server.voice ≡ e.server.voice)
