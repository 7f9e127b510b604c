-- Runs of a number that is held: making reads it, and a call, at tag 0, gives it and holds the number that it reads. Assumes nothing.
use Rattle.std.specs.Prelude.{ℕ, ⊤, List, [], ◌∷◌}
use Rattle.fields.specs.Parser.{Parser}
use Rattle.fields.specs.Fields.{number}
use Rattle.outputs.specs.Output.{Calling, tagged}

-- a number is its own state, and each may be held
abbrev pub state_of : ℕ → ℕ
state_of p = p

abbrev pub Valid : ℕ → Type 0
Valid p = ⊤

-- the call at each tag
abbrev pub by_tag : List (Parser ℕ)
by_tag = number ∷ []

abbrev pub held : Calling ℕ ℕ ℕ
held =
    record {
      make = number;
      make_answer = λ m. 0;
      made = λ m. m;
      asked = tagged by_tag;
      numbers = λ s a. s ∷ [];
      state_after = λ s a. a;
    }
