-- The calls of an ensemble's run, each a line of docs/RUN.md, Ensembles, and how they are read. Assumes nothing.
use Rattle.std.specs.Prelude.{ℕ, List, [], ◌∷◌}
use Rattle.codes.specs.declared.SettingsCodes.{SettingsCodes}
use Rattle.fields.specs.Parser.{Parser, ◌then◌, done}
use Rattle.fields.specs.Fields.{number, up_to, f32}
use Rattle.runs.specs.Records.{settings, transport}
use Rattle.runs.specs.Curves.{shape, path}
use Rattle.outputs.specs.Numbers.{sevens}
use Rattle.outputs.specs.Output.{none, tagged}
use Rattle.ensemble_calls.specs.Calls.{Call}
use Rattle.ensemble_calls.specs.Calls as Calls

-- make = settings shared count seed
unfoldable pub make : Parser (SettingsCodes × ℕ × ℕ × ℕ)
make = settings then λ c. number then λ shared. number then λ count. number then λ seed. done (c, shared, count, seed)

-- tag 0 settings shared
unfoldable pub settings_call : Parser Call
settings_call = settings then λ c. number then λ shared. done (Calls.settings c shared)

-- tag 1 shape
unfoldable pub shape_call : Parser Call
shape_call = shape then λ c. done (Calls.shape c)

-- tag 2 path
unfoldable pub path_call : Parser Call
path_call = path then λ c. done (Calls.path c)

-- tag 3 bus value
unfoldable pub bus_call : Parser Call
bus_call = number then λ k. f32 then λ value. done (Calls.bus k value)

-- tag 4 voice transport (phase read)
unfoldable pub phase_call : Parser Call
phase_call = number then λ v. transport then λ t. done (Calls.phase v t)

-- tag 5 transport frames x_len y_len (block)
unfoldable pub block_call : Parser Call
block_call =
    transport then λ t.
    number then λ frames.
    up_to 65600 then λ x_len.
    up_to 65600 then λ y_len.
    done (Calls.block t frames (sevens x_len) (sevens y_len))

-- tag 9 voice frame (trigger: a restart asked for)
unfoldable pub trigger_call : Parser Call
trigger_call = number then λ v. number then λ frame. done (Calls.trigger v frame)

-- each at its tag
unfoldable pub by_tag : List (Parser Call)
by_tag = settings_call ∷ shape_call ∷ path_call ∷ bus_call ∷ phase_call ∷ block_call ∷ none ∷ none ∷ none ∷ trigger_call ∷ []

abbrev pub asked : Parser Call
asked = tagged by_tag
