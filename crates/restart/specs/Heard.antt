-- What is heard of a list of calls up to the next restart or edit, and the transports of the blocks that it takes. Assumes nothing.
use Rattle.std.specs.Prelude.{ℕ, min, cond, List, [], ◌∷◌, ◌++◌, take, Float, None, Option, Some}
use Rattle.codes.specs.declared.TransportCodes.{TransportCodes}
use Rattle.codes.specs.declared.RestartCodes.{RestartCodes}
use Rattle.calls.specs.State.{State}
use Rattle.calls.specs.Blocks.{pending_of}
use Rattle.calls.specs.Calls.{Call, is_edit, by_block, accepts, step, buffer}

-- ---- the frames of one block

-- the x or the y of a frame
pub data Side : Type 0 where
  x_side y_side : Side

-- "A frame's x and y are read as its block's call leaves them": the first of the buffer
unfoldable pub read : Side → State → TransportCodes → ℕ → RestartCodes → List Float → List Float → List Float
read x_side p c frames restart x y = take frames (buffer p c frames restart x y (λ f. f.x) x)
read y_side p c frames restart x y = take frames (buffer p c frames restart x y (λ f. f.y) y)

-- ---- of an accepted block and what follows it, what comes before the next restart

-- of its frames and those after it: with no restart all, and else the block's before its restart, "at its frame or, where that lies beyond the end, at the end"
abbrev pub frames_up_to : Option ℕ → ℕ → List Float → List Float → List Float
frames_up_to None frames own later = own ++ later
frames_up_to (Some k) frames own later = take (min k frames) own

-- of its transport and those after it: "the block of that next restart included"
abbrev pub blocks_up_to : Option ℕ → TransportCodes → List TransportCodes → List TransportCodes
blocks_up_to None own later = own ∷ later
blocks_up_to (Some k) own later = own ∷ []

-- ---- of a list of calls: a refused call adds nothing and ends nothing, and so does an accepted one that is neither a block nor an edit; an accepted edit is the end

-- the frames up to the next restart or edit, "through all accepted blocks"
unfoldable pub heard : Side → State → List Call → List Float
heard side p [] = []
heard side p (c ∷ cs) =
    let later = heard side (step p c) cs in
    cond (accepts p c) (by_block (cond (is_edit c) [] later) c λ t n restart x y. frames_up_to (pending_of restart) n (read side p t n restart x y) later) later

-- the transports of the accepted blocks up to the next restart or edit
unfoldable pub window : State → List Call → List TransportCodes
window p [] = []
window p (c ∷ cs) =
    let later = window (step p c) cs in
    cond (accepts p c) (by_block (cond (is_edit c) [] later) c λ t n restart x y. blocks_up_to (pending_of restart) t later) later
