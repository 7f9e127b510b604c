-- The calls of a run, each a line of docs/RUN.md, and how they are read. Assumes nothing.
use Rattle.std.specs.Prelude.{ℕ, List, [], ◌∷◌, Float}
use Rattle.codes.specs.declared.TransportCodes.{TransportCodes}
use Rattle.codes.specs.declared.RestartCodes.{RestartCodes}
use Rattle.codes.specs.declared.ShapeCodes.{ShapeCodes}
use Rattle.codes.specs.declared.PathCodes.{PathCodes}
use Rattle.calls.specs.Calls.{Call}
use Rattle.calls.specs.Calls as Calls
use Rattle.fields.specs.Parser.{Parser, ◌then◌, done}
use Rattle.fields.specs.Fields.{number, up_to, f32}
use Rattle.runs.specs.Records.{settings, transport, restart}
use Rattle.runs.specs.Curves.{shape, path}
use Rattle.outputs.specs.Numbers.{sevens}
use Rattle.outputs.specs.Output.{tagged}

-- a call on the player, or one that evaluates a shape, a path or the legs of a path
pub data Asked : Type 0 where
  call : Call → Asked
  shape_at : ShapeCodes → Float → Asked
  path_at : PathCodes → Float → Asked
  legs : PathCodes → Asked

-- tag 0
unfoldable pub settings_call : Parser Asked
settings_call = settings then λ c. done (call (Calls.settings c))

-- tag 1
unfoldable pub shape_call : Parser Asked
shape_call = shape then λ c. done (call (Calls.shape c))

-- tag 2
unfoldable pub path_call : Parser Asked
path_call = path then λ c. done (call (Calls.path c))

-- tag 3
unfoldable pub bus_call : Parser Asked
bus_call = number then λ k. f32 then λ value. done (call (Calls.bus k value))

-- tag 4
unfoldable pub phase_call : Parser Asked
phase_call = transport then λ t. done (call (Calls.phase t))

abbrev pub block_asked : TransportCodes → ℕ → RestartCodes → List Float → List Float → Asked
block_asked t frames at x y = call (Calls.block t frames at x y)

-- tag 5
unfoldable pub block_call : Parser Asked
block_call =
    transport then λ t.
    number then λ frames.
    restart then λ at.
    up_to 8192 then λ x_len.
    up_to 8192 then λ y_len.
    done (block_asked t frames at (sevens x_len) (sevens y_len))

-- tag 6
unfoldable pub shape_at_call : Parser Asked
shape_at_call = shape then λ c. f32 then λ x. done (shape_at c x)

-- tag 7
unfoldable pub path_at_call : Parser Asked
path_at_call = path then λ c. f32 then λ t. done (path_at c t)

-- tag 8
unfoldable pub legs_call : Parser Asked
legs_call = path then λ c. done (legs c)

-- each at its tag
unfoldable pub by_tag : List (Parser Asked)
by_tag = settings_call ∷ shape_call ∷ path_call ∷ bus_call ∷ phase_call ∷ block_call ∷ shape_at_call ∷ path_at_call ∷ legs_call ∷ []

abbrev pub asked : Parser Asked
asked = tagged by_tag
