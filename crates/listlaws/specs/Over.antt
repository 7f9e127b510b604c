-- A list that is written over. Assumes nothing.
use Rattle.std.specs.Prelude.{ℕ, ◌+◌, List, ◌++◌, length, take, drop}

-- x with l written over it from the place `at` on
unfoldable pub over : {A : Type 0} → List A → ℕ → List A → List A
over x at l = take at x ++ l ++ drop (at + length l) x
