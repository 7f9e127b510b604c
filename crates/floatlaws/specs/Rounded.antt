-- The four operations on f32 and on f64, each rounded once, to nearest, ties to even; and a whole number as a float. A cast from f32 to f64 changes no value, so a definition has none. Assumes nothing.
use Rattle.std.specs.Prelude.{ℕ, pos, Float}
use Rattle.std.specs.Float.{binary32, binary64}
use Rattle.std.specs.Float.Ieee.{add, sub, mul, div, of_int}

infixl 65 ◌+₃₂◌ ◌-₃₂◌ ◌+₆₄◌ ◌-₆₄◌
infixl 70 ◌×₃₂◌ ◌÷₃₂◌ ◌×₆₄◌ ◌÷₆₄◌
abbrev pub ◌+₃₂◌ : Float → Float → Float
x +₃₂ y = add binary32 x y

abbrev pub ◌-₃₂◌ : Float → Float → Float
x -₃₂ y = sub binary32 x y

abbrev pub ◌×₃₂◌ : Float → Float → Float
x ×₃₂ y = mul binary32 x y

abbrev pub ◌÷₃₂◌ : Float → Float → Float
x ÷₃₂ y = div binary32 x y

abbrev pub ◌+₆₄◌ : Float → Float → Float
x +₆₄ y = add binary64 x y

abbrev pub ◌-₆₄◌ : Float → Float → Float
x -₆₄ y = sub binary64 x y

abbrev pub ◌×₆₄◌ : Float → Float → Float
x ×₆₄ y = mul binary64 x y

abbrev pub ◌÷₆₄◌ : Float → Float → Float
x ÷₆₄ y = div binary64 x y

-- the float nearest to n
abbrev pub to_f32 : ℕ → Float
to_f32 n = of_int binary32 (pos n)

abbrev pub to_f64 : ℕ → Float
to_f64 n = of_int binary64 (pos n)
