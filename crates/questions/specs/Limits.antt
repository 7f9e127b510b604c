-- The limits of question 6, by their bit patterns, each held to its number in Vectors. Assumes nothing.
use Rattle.std.specs.Prelude.{Float}
use Rattle.std.specs.Float.{binary64}
use Rattle.std.specs.Float.Ieee.{of_bits, neg}

abbrev pub f64_64 : Float
f64_64 = of_bits binary64 0x4050_0000_0000_0000

abbrev pub f64_1000 : Float
f64_1000 = of_bits binary64 0x408f_4000_0000_0000

abbrev pub f64_768000 : Float
f64_768000 = of_bits binary64 0x4127_7000_0000_0000

abbrev pub f64_2147483647 : Float
f64_2147483647 = of_bits binary64 0x41df_ffff_ffc0_0000

-- -2,147,483,648, as the code has it: negated
abbrev pub f64_minus2147483648 : Float
f64_minus2147483648 = neg (of_bits binary64 0x41e0_0000_0000_0000)
