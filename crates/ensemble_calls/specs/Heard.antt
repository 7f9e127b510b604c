-- What a voice plays in a list of calls, as the calls leave it in the buffers, and what of the calls it may depend on. Assumes nothing.
use Rattle.std.specs.Prelude.{ℕ, ◌+◌, ◌*◌, Bool, false, ◌&&◌, cond, List, [], ◌∷◌, ◌++◌, length, get_or, Float}
use Rattle.std.specs.Bool.{beq}
use Rattle.std.specs.Float.{nan}
use Rattle.listlaws.specs.Tables.{tabulate}
use Rattle.codes.specs.declared.TransportCodes.{TransportCodes}
use Rattle.ensemble_calls.specs.Ensembles.{EnsembleState}
use Rattle.ensemble_calls.specs.Calls.{Call, settings, shape, path, bus, trigger, phase, block, by_block, accepts, step, buffer, finished_by}

-- ---- what is heard

-- voice v's column in a buffer of `count` voices: frame k stands at k × count + v
unfoldable pub column : ℕ → ℕ → ℕ → List Float → List Float
column count v frames l = tabulate (λ k. get_or l (k * count + v) nan) frames

-- of a voice in a block: its columns of x and y, read as the call leaves them, and finished as the call says it
pub record Heard : Type 0 where
  pub x : List Float
  pub y : List Float
  pub finished : Bool

unfoldable pub heard_of : ℕ → EnsembleState → TransportCodes → ℕ → List Float → List Float → Heard
heard_of v e t frames x y =
    record {
      x = column (length e.voices) v frames (buffer e t frames x y (λ f. f.x) x);
      y = column (length e.voices) v frames (buffer e t frames x y (λ f. f.y) y);
      finished = get_or (finished_by e t frames x y) v false;
    }

-- of a call: an accepted block in which shared is as b says is heard
unfoldable pub heard_in : Bool → ℕ → EnsembleState → Call → List Heard
heard_in b v e c = by_block [] c λ t frames x y. cond (accepts e c && beq e.shared b) (heard_of v e t frames x y ∷ []) []

-- what voice v plays, block by block, in the blocks in which shared is as b says
unfoldable pub plays : Bool → ℕ → EnsembleState → List Call → List Heard
plays b v e [] = []
plays b v e (c ∷ cs) = heard_in b v e c ++ plays b v (step e c) cs

-- ---- what it may depend on

-- an edit of the common page, curves or buses; a restart asked for; a block's transport and length
pub data Seen : Type 0 where
  edit : Call → Seen
  restart : ℕ → Seen
  played : TransportCodes → ℕ → Seen

-- Of a call, where `own` says whose restarts are meant. A phase read is nothing, nor are the buffers as they were, nor the number of voices.
unfoldable pub seen_of : (ℕ → Bool) → Call → List Seen
seen_of own (settings c shared) = edit (settings c shared) ∷ []
seen_of own (shape c) = edit (shape c) ∷ []
seen_of own (path c) = edit (path c) ∷ []
seen_of own (bus k value) = edit (bus k value) ∷ []
seen_of own (trigger u at) = cond (own u) (restart at ∷ []) []
seen_of own (phase u t) = []
seen_of own (block t frames x y) = played t frames ∷ []

-- of a list: of each accepted call
unfoldable pub seen : (ℕ → Bool) → EnsembleState → List Call → List Seen
seen own e [] = []
seen own e (c ∷ cs) = cond (accepts e c) (seen_of own c) [] ++ seen own (step e c) cs
