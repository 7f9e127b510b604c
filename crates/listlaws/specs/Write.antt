-- What writing a list into another does, to the last element. Assumes nothing.
use Rattle.std.specs.Prelude.{ℕ, ◌+◌, ◌≡◌, Bool, cond, List, Option, Some, None, leb, length}
use Rattle.listlaws.specs.Over.{over}

-- whether so many elements fit from the place `at` on into a buffer of `len`
abbrev pub fits : ℕ → ℕ → ℕ → Bool
fits len at count = leb (at + count) len

-- writing t at the place `at` of x answers r and leaves y
pub record Writes (x : List ℕ) (at : ℕ) (t : List ℕ) (r : Option ℕ) (y : List ℕ) : Type 0 where
  pub answer : r ≡ cond (fits (length x) at (length t)) (Some (at + length t)) None
  pub bytes : y ≡ cond (fits (length x) at (length t)) (over x at t) x

-- where there is room: the place after it, and the bytes
pub record Puts (x : List ℕ) (at : ℕ) (t : List ℕ) (r : ℕ) (y : List ℕ) : Type 0 where
  pub next : r ≡ at + length t
  pub bytes : y ≡ over x at t
