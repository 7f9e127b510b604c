-- The output of a run of calls. Assumes nothing.
use Rattle.std.specs.Prelude.{ℕ, zero, suc, ◌≡◌, cond, List, [], ◌∷◌, eqb, ltb, length, get_or}
use Rattle.listlaws.specs.Over.{over}
use Rattle.fields.specs.Parser.{Parsed, read, fault, bad_number, Parser, ◌then◌}
use Rattle.fields.specs.Fields.{number}
use Rattle.replies.specs.Replies.{fitting}

-- The calls of a run. M is what making is handed, S the state that it makes, and A a call.
pub record Calling (M S A : Type 0) : Type 0 where
  -- making: how it is read, the number that it answers, and the state
  pub make : Parser M
  pub make_answer : M → ℕ
  pub made : M → S
  -- a call: how it is read, the numbers that it gives, and the state after it
  pub asked : Parser A
  pub numbers : S → A → List ℕ
  pub state_after : S → A → S

-- ---- a call behind its tag

-- a tag of no call
abbrev pub none : {A : Type 0} → Parser A
none run at = fault bad_number

-- of calls, each at its tag
unfoldable pub tagged : {A : Type 0} → List (Parser A) → Parser A
tagged by_tag = number then λ tag. get_or by_tag tag none

-- ---- what is given, call by call

-- "Where the bytes of a call are malformed, the output ends with the number 255", whatever the fault
abbrev pub ill : List (List ℕ)
ill = (255 ∷ []) ∷ []

module _ {M S A : Type 0} (C : Calling M S A) where
  -- what a call gives, its numbers, and then what `rest` gives to the state after it from the place after it
  unfoldable pub given_by : S → (S → ℕ → List (List ℕ)) → Parsed A → List (List ℕ)
  given_by s rest (fault n) = ill
  given_by s rest (read a at) = C.numbers s a ∷ rest (C.state_after s a) at

  -- What the calls from the place `at` on give to the state s, of which `most` are looked at. Each takes a byte or more, so there are no more of them than bytes:
  -- `enough` of proofs/Enough.antt.
  unfoldable pub given : ℕ → S → List ℕ → ℕ → List (List ℕ)
  given zero s run at = []
  given (suc most) s run at = cond (ltb at (length run)) (given_by s (λ t. given most t run) (C.asked run at)) []

  -- "Where making is refused the output ends after its number."
  unfoldable pub given_from : List ℕ → Parsed M → List (List ℕ)
  given_from run (fault n) = ill
  given_from run (read m at) = (C.make_answer m ∷ []) ∷ cond (eqb (C.make_answer m) 0) (given (length run) (C.made m) run at) []

  unfoldable pub output : List ℕ → ℕ → List ℕ
  output run len = fitting len 0 (given_from run (C.make run 0))

  -- what a run writes to the buffer x, which it leaves as y, and the number of bytes
  pub record Runs (run x : List ℕ) (r : ℕ) (y : List ℕ) : Type 0 where
    pub count : r ≡ length (output run (length x))
    pub bytes : y ≡ over x 0 (output run (length x))
