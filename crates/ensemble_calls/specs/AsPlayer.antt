-- A voice plays what a player plays that gets the same edits and blocks, with the restarts asked of the voice. Proved in proofs/AsPlayer.antt. Assumes nothing.
use Rattle.std.specs.Prelude.{ℕ, ◌<◌, ◌≡◌, true, false, cond, List, [], ◌∷◌, ◌++◌, length, take, None, Option, Some}
use Rattle.codes.specs.declared.SettingsCodes.{SettingsCodes}
use Rattle.settings.specs.Codes.{transport_at}
use Rattle.curves.specs.Given.{is_yes}
use Rattle.codes.specs.declared.RestartCodes.{RestartCodes}
use Rattle.calls.specs.State.{State}
use Rattle.calls.specs.Blocks.{pending_of, finished}
use Rattle.calls.specs.Calls as player
use Rattle.calls.specs.Calls.{by_transport}
use Rattle.ensemble_calls.specs.Ensembles.{EnsembleState, seed_of, server_index, record_at}
use Rattle.ensemble_calls.specs.Blocks.{player_of, playing}
use Rattle.ensemble_calls.specs.Calls.{Call, settings, shape, path, bus, trigger, phase, block, accepts, makes, made, step, after}
use Rattle.ensemble_calls.specs.Heard.{Heard, plays}

-- ---- voice v as a player: the page, and the record that plays for it

abbrev pub player_at : EnsembleState → ℕ → State
player_at e v = player_of e (playing e (record_at e v))

-- and the restart that waits for its next block
abbrev pub pending_at : EnsembleState → ℕ → Option ℕ
pending_at e v = (playing e (record_at e v)).pending

-- ---- the calls that a player of its own gets

-- a restart as a player's block carries it
unfoldable pub restart_codes : Option ℕ → RestartCodes
restart_codes None = record { code = 0; frame = 0 }
restart_codes (Some k) = record { code = 1; frame = k }

-- of an accepted call: an edit, without shared; a block, with the restart that waits
unfoldable pub own_call : ℕ → EnsembleState → Call → List player.Call
own_call v e (settings c shared) = player.settings c ∷ []
own_call v e (shape c) = player.shape c ∷ []
own_call v e (path c) = player.path c ∷ []
own_call v e (bus k value) = player.bus k value ∷ []
own_call v e (trigger u at) = []
own_call v e (phase u t) = []
own_call v e (block t frames x y) = player.block t frames (restart_codes (pending_at e v)) x y ∷ []

unfoldable pub own_calls : ℕ → EnsembleState → List Call → List player.Call
own_calls v e [] = []
own_calls v e (c ∷ cs) = cond (accepts e c) (own_call v e c) [] ++ own_calls v (step e c) cs

-- ---- what a player plays, block by block, read as its calls leave it

unfoldable pub player_heard : State → player.Call → List Heard
player_heard p c =
    player.by_block [] c λ t frames restart x y.
    cond (player.accepts p c)
    (record {
      x = take frames (player.buffer p t frames restart x y (λ f. f.x) x);
      y = take frames (player.buffer p t frames restart x y (λ f. f.y) y);
      finished = by_transport false (transport_at t) λ k. finished p k frames (pending_of restart);
    } ∷ [])
    []

unfoldable pub player_plays : State → List player.Call → List Heard
player_plays p [] = []
player_plays p (c ∷ cs) = player_heard p c ++ player_plays (player.step p c) cs

-- ---- the theorem

-- no call switches shared
unfoldable pub Unswitched : EnsembleState → List Call → Type 0
Unswitched e [] = Unit
Unswitched e (c ∷ cs) = ((step e c).shared ≡ e.shared) × Unswitched (step e c) cs

abbrev pub AsPlayer : Type 0
AsPlayer =
    (e : EnsembleState) (v : ℕ) → v < length e.voices → (calls : List Call) → Unswitched e calls
    → (plays e.shared v e calls ≡ player_plays (player_at e v) (own_calls v e calls)) × (player_at (after e calls) v ≡ player.after (player_at e v) (own_calls v e calls))

-- as it is made, it is the player of the voice's seed; with shared on, of the serving voice's
abbrev pub MadeAsPlayer : Type 0
MadeAsPlayer =
    (c : SettingsCodes) (shared count seed v : ℕ) → makes c shared count ≡ true → v < count
    → player_at (made c shared count seed) v ≡ player.made c (seed_of seed (cond (is_yes shared) server_index v))
