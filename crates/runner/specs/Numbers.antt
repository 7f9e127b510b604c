-- What a call of a run gives, as numbers, and the player after it. Assumes nothing.
use Rattle.std.specs.Prelude.{ℕ, cond, List, [], ◌∷◌, eqb, take, Float}
use Rattle.codes.specs.declared.TransportCodes.{TransportCodes}
use Rattle.codes.specs.declared.RestartCodes.{RestartCodes}
use Rattle.evaluate.specs.Values.{LegsAnswer, evaluated_shape, evaluated_path, evaluated_legs}
use Rattle.calls.specs.State.{State}
use Rattle.calls.specs.Calls.{Call, settings, shape, path, bus, phase, block, answer, accepts, step, buffer}
use Rattle.player.specs.Promises.{finished_by}
use Rattle.player.specs.Readings.{phase_answer}
use Rattle.replies.specs.Replies.{bits_of, listed}
use Rattle.outputs.specs.Numbers.{flag_of, answer_numbers}
use Rattle.runner.specs.Asked.{Asked, call, shape_at, path_at, legs}

-- where the number is 0, "the count of legs and then their bits for tag 8"
unfoldable pub legs_numbers : LegsAnswer → List ℕ
legs_numbers r = r.answer ∷ cond (eqb r.answer 0) (r.count ∷ bits_of (take r.count r.lengths)) []

-- Where the number is 0, "finished for tag 5"; "accepted or refused, there follow the x_len numbers of buffer x and the y_len numbers of buffer y as the call
-- leaves them".
unfoldable pub block_numbers : State → TransportCodes → ℕ → RestartCodes → List Float → List Float → List ℕ
block_numbers p t frames at x y =
    let c = block t frames at x y in
    listed
    (answer p c ∷ cond (accepts p c) (flag_of (finished_by p t frames at x y) ∷ []) [])
    (buffer p t frames at x y (λ f. f.x) x)
    (buffer p t frames at x y (λ f. f.y) y)

unfoldable pub call_numbers : State → Call → List ℕ
call_numbers p (settings c) = answer p (settings c) ∷ []
call_numbers p (shape c) = answer p (shape c) ∷ []
call_numbers p (path c) = answer p (path c) ∷ []
call_numbers p (bus k value) = answer p (bus k value) ∷ []
call_numbers p (phase t) = answer_numbers (phase_answer p t)
call_numbers p (block t frames at x y) = block_numbers p t frames at x y

unfoldable pub numbers : State → Asked → List ℕ
numbers p (call c) = call_numbers p c
numbers p (shape_at c x) = answer_numbers (evaluated_shape c x)
numbers p (path_at c t) = answer_numbers (evaluated_path c t)
numbers p (legs c) = legs_numbers (evaluated_legs c)

-- the player after it
unfoldable pub state_after : State → Asked → State
state_after p (call c) = step p c
state_after p (shape_at c x) = p
state_after p (path_at c t) = p
state_after p (legs c) = p
