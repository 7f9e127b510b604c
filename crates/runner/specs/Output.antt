-- The output of a run. Assumes nothing.
use Rattle.std.specs.Prelude.{ℕ, List}
use Rattle.codes.specs.declared.SettingsCodes.{SettingsCodes}
use Rattle.questions.specs.Questions.{first_no, settings_questions}
use Rattle.calls.specs.State.{State}
use Rattle.calls.specs.Calls.{made}
use Rattle.fields.specs.Parser.{Parser, ◌then◌, done}
use Rattle.fields.specs.Fields.{number}
use Rattle.runs.specs.Records.{settings}
use Rattle.outputs.specs.Output as outputs
use Rattle.outputs.specs.Output.{Calling}
use Rattle.runner.specs.Asked.{Asked, asked}
use Rattle.runner.specs.Numbers.{numbers, state_after}

-- "The run begins with making a player"
unfoldable pub make : Parser (SettingsCodes × ℕ)
make = settings then λ c. number then λ seed. done (c, seed)

abbrev pub players : Calling (SettingsCodes × ℕ) State Asked
players =
    record {
      make = make;
      make_answer = λ (c, seed). first_no (settings_questions c);
      made = λ (c, seed). made c seed;
      asked = asked;
      numbers = numbers;
      state_after = state_after;
    }

-- what the calls of a run give, as bytes, into a buffer of `len` bytes
abbrev pub output : List ℕ → ℕ → List ℕ
output = outputs.output players

-- what a run writes to the buffer x, which it leaves as y, and the number of bytes
abbrev pub Runs : List ℕ → List ℕ → ℕ → List ℕ → Type 0
Runs = outputs.Runs players
