-- Numbers that calls give, and the buffers that a block gets, whatever plays it. Assumes nothing.
use Rattle.std.specs.Prelude.{ℕ, Bool, cond, List, ◌∷◌, replicate, Float}
use Rattle.std.specs.Float.{binary32}
use Rattle.std.specs.Float.Ieee.{of_bits}
use Rattle.questions.specs.Answers.{Answer}
use Rattle.replies.specs.Replies.{bits_of}

abbrev pub flag_of : Bool → ℕ
flag_of b = cond b 1 0

-- "its answer's number .. Then, where it is 0: the phase's bits for tag 4 .. the value's bits for tag 6; the bits of x and of y for tag 7"
unfoldable pub answer_numbers : Answer → List ℕ
answer_numbers a = a.number ∷ bits_of a.values

-- "before each block every element of both is 7.0 (bits 40e00000)"
abbrev pub seven : Float
seven = of_bits binary32 0x40e0_0000

abbrev pub sevens : ℕ → List Float
sevens n = replicate n seven
