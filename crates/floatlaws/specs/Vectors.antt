-- The literals of Numbers.antt, each bit pattern held to its fraction, and what a floor leaves just below zero, by computation. Assumes nothing.
use Rattle.std.specs.Prelude.{◌^◌, ◌≡◌, refl, true, false, List, [], ◌∷◌, pos, negsuc, Float}
use Rattle.std.specs.Float.{fin, binary64}
use Rattle.std.specs.Float.Ieee.{of_bits, round, sub}
use Rattle.floatlaws.specs.Numbers.{f32, f64, f32_0, f32_½, f32_1, f32_2, f32_4, f32_10, f32_14, f32_32, f32_100, f32_360, f32_1000, f64_0, f64_least, f64_eps, f64_¼, f64_½, f64_1, f64_1½, f64_2, f64_3, f64_4, f64_16, f64_60, f64_100, f64_120, f64_360, f64_512, f64_1024, f64_4096, f64_longest}
use Rattle.floatlaws.specs.Whole.{whole_of, to_floor}

written : List Float
written =
    f32_0 ∷ f32_½ ∷ f32_1 ∷ f32_2 ∷ f32_4 ∷ f32_10 ∷ f32_14 ∷ f32_32 ∷ f32_100 ∷ f32_360 ∷ f32_1000
    ∷ f64_0 ∷ f64_least ∷ f64_eps ∷ f64_¼ ∷ f64_½ ∷ f64_1 ∷ f64_1½ ∷ f64_2 ∷ f64_3 ∷ f64_4 ∷ f64_16 ∷ f64_60 ∷ f64_100 ∷ f64_120 ∷ f64_360 ∷ f64_512 ∷ f64_1024 ∷ f64_4096 ∷ f64_longest ∷ []

meant : List Float
meant =
    f32 0 1 ∷ f32 1 2 ∷ f32 1 1 ∷ f32 2 1 ∷ f32 4 1 ∷ f32 10 1 ∷ f32 14 1 ∷ f32 32 1 ∷ f32 100 1 ∷ f32 360 1 ∷ f32 1000 1
    ∷ f64 0 1 ∷ f64 1 (2 ^ 1022) ∷ f64 1 (10 ^ 9) ∷ f64 1 4 ∷ f64 1 2 ∷ f64 1 1 ∷ f64 3 2 ∷ f64 2 1 ∷ f64 3 1 ∷ f64 4 1 ∷ f64 16 1 ∷ f64 60 1 ∷ f64 100 1 ∷ f64 120 1 ∷ f64 360 1 ∷ f64 512 1 ∷ f64 1024 1 ∷ f64 4096 1 ∷ f64 (10 ^ 15) 1 ∷ []

right : written ≡ meant
unfolding written meant of_bits round
right = refl

-- at -2 ^ -60 the difference rounds up to 1, so no law has it below 1
rest_reaches_one : sub binary64 (fin true 1 (negsuc 59)) (whole_of binary64 to_floor (fin true 1 (negsuc 59))) ≡ fin false 1 (pos 0)
unfolding sub whole_of
rest_reaches_one = refl
