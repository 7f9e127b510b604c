-- What a call of an ensemble's run gives, as numbers. Assumes nothing.
use Rattle.std.specs.Prelude.{ℕ, cond, List, [], ◌∷◌, map, Float}
use Rattle.codes.specs.declared.TransportCodes.{TransportCodes}
use Rattle.replies.specs.Replies.{listed}
use Rattle.outputs.specs.Numbers.{flag_of, answer_numbers}
use Rattle.ensemble_calls.specs.Ensembles.{EnsembleState}
use Rattle.ensemble_calls.specs.Calls.{Call, settings, shape, path, bus, trigger, phase, block, answer, accepts, buffer, finished_by}
use Rattle.ensemble_player.specs.Readings.{voice_phase_answer}

-- "Of an accepted block there comes one finished a voice, in the order of the voices, before the x_len and the y_len numbers of both buffers."
unfoldable pub block_numbers : EnsembleState → TransportCodes → ℕ → List Float → List Float → List ℕ
block_numbers e t frames x y =
    let c = block t frames x y in
    listed
    (answer e c ∷ cond (accepts e c) (map flag_of (finished_by e t frames x y)) [])
    (buffer e t frames x y (λ f. f.x) x)
    (buffer e t frames x y (λ f. f.y) y)

-- "its answer's number .. Then, where it is 0: the phase's bits for tag 4"
unfoldable pub numbers : EnsembleState → Call → List ℕ
numbers e (settings c shared) = answer e (settings c shared) ∷ []
numbers e (shape c) = answer e (shape c) ∷ []
numbers e (path c) = answer e (path c) ∷ []
numbers e (bus k value) = answer e (bus k value) ∷ []
numbers e (trigger v at) = answer e (trigger v at) ∷ []
numbers e (phase v t) = answer_numbers (voice_phase_answer e v t)
numbers e (block t frames x y) = block_numbers e t frames x y
