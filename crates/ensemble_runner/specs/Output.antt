-- The output of an ensemble's run. Assumes nothing.
use Rattle.std.specs.Prelude.{ℕ, List}
use Rattle.codes.specs.declared.SettingsCodes.{SettingsCodes}
use Rattle.questions.specs.Questions.{first_no}
use Rattle.outputs.specs.Output as outputs
use Rattle.outputs.specs.Output.{Calling}
use Rattle.ensemble_calls.specs.Ensembles.{EnsembleState}
use Rattle.ensemble_calls.specs.Questions.{make_questions}
use Rattle.ensemble_calls.specs.Calls.{Call, made, step}
use Rattle.ensemble_runner.specs.Asked.{make, asked}
use Rattle.ensemble_runner.specs.Numbers.{numbers}

abbrev pub ensembles : Calling (SettingsCodes × ℕ × ℕ × ℕ) EnsembleState Call
ensembles =
    record {
      make = make;
      make_answer = λ (c, shared, count, seed). first_no (make_questions c shared count);
      made = λ (c, shared, count, seed). made c shared count seed;
      asked = asked;
      numbers = numbers;
      state_after = step;
    }

-- what the calls of a run give, as bytes, into a buffer of `len` bytes
abbrev pub output : List ℕ → ℕ → List ℕ
output = outputs.output ensembles

-- what a run writes to the buffer x, which it leaves as y, and the number of bytes
abbrev pub Runs : List ℕ → List ℕ → ℕ → List ℕ → Type 0
Runs = outputs.Runs ensembles
