-- What is shown of bytes. Assumes nothing.
use Rattle.std.specs.Prelude.{ℕ, ◌/◌, ◌%◌, false, Option, List, [], ◌∷◌, ◌++◌, take}
use Rattle.std.specs.Fmt.{digit_glyph}
use Rattle.std.specs.Io.KnownBytes.{Appends}
use Rattle.stored.specs.declared.Given.{Given}

-- a byte as two hexadecimal digits
abbrev pub pair_of : ℕ → List ℕ
pair_of b = digit_glyph false (b / 16) ∷ digit_glyph false (b % 16) ∷ []

unfoldable pub pairs : List ℕ → List ℕ
pairs [] = []
pairs (b ∷ l) = pair_of b ++ pairs l

-- a line of them
abbrev pub shown : List ℕ → List ℕ
shown l = pairs l ++ (10 ∷ [])

-- a line of what was given of the bytes l
abbrev pub line : Given → List ℕ → List ℕ
line (Given.Bytes n) l = shown (take n l)
line (Given.Answer a) l = pair_of (a % 256) ++ shown (take (a / 256) l)

unfoldable pub lines : List (Given × List ℕ) → List ℕ
lines [] = []
lines ((g, l) ∷ rest) = line g l ++ lines rest

-- what was there stays, and lines come behind it
abbrev pub AppendsLines : Option (List ℕ) → Option (List ℕ) → Type 0
AppendsLines old new = (l : List (Given × List ℕ)) × Appends old new (lines l)
