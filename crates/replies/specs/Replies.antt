-- Numbers written one behind the other, all of them or none. Assumes nothing.
use Rattle.std.specs.Prelude.{ℕ, ◌+◌, cond, Option, List, [], ◌∷◌, ◌++◌, map, length, Float}
use Rattle.std.specs.Float.{binary32}
use Rattle.std.specs.Float.Ieee.{to_bits}
use Rattle.listlaws.specs.Write as Write
use Rattle.listlaws.specs.Write.{Writes}
pub use Rattle.listlaws.specs.Write.{fits}
use Rattle.number.specs.Encoded.{encoded}

-- the bytes of numbers, one behind the other
unfoldable pub bytes_of : List ℕ → List ℕ
bytes_of [] = []
bytes_of (n ∷ l) = encoded n ++ bytes_of l

-- floats as the numbers of their bits; a NaN is 7fc00000
abbrev pub bits_of : List Float → List ℕ
bits_of = map (to_bits binary32)

-- numbers, and then the floats of two lists
unfoldable pub listed : List ℕ → List Float → List Float → List ℕ
listed l x y = l ++ bits_of x ++ bits_of y

-- The bytes of what the calls give, from the place `at` of a buffer of `len` bytes on: "Where `out` has no room for what a call gives, nothing of that call is
-- written and the output ends there."
unfoldable pub fitting : ℕ → ℕ → List (List ℕ) → List ℕ
fitting len at [] = []
fitting len at (l ∷ rest) = cond (fits len at (length (bytes_of l))) (bytes_of l ++ fitting len (at + length (bytes_of l)) rest) []

-- writing the numbers l at the place `at` of x, all of them or none, answers r and leaves y
abbrev pub WritesAll : List ℕ → ℕ → List ℕ → Option ℕ → List ℕ → Type 0
WritesAll x at l r y = Writes x at (bytes_of l) r y

-- where there is room: the place after them, and the bytes
abbrev pub Puts : List ℕ → ℕ → List ℕ → ℕ → List ℕ → Type 0
Puts x at l r y = Write.Puts x at (bytes_of l) r y
