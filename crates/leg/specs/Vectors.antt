-- Some coordinates and legs, by computation. Assumes nothing.
use Rattle.std.specs.Prelude.{◌≡◌, ◌+◌, true, false, [], ◌∷◌, refl}
use Rattle.std.specs.Int.Count.{count_leading_zeros}
use Rattle.std.specs.Float.{nan, inf, binary32}
use Rattle.std.specs.Float.Ieee.{of_bits, neg, round, lt, le}
use Rattle.floatlaws.specs.Numbers.{f32, f32_0, f32_½, f32_1}
use Rattle.floatlaws.specs.Extrema.{clamp_of}
use Rattle.floatlaws.specs.Multiples.{is_multiple, multiples_in}
use Rattle.leg.specs.Paper.{◌², on_paper, squares_of}
use Rattle.leg.specs.Root.{halved, significand_of, root_of, leg_of}

-- 0, -0, 1/4096, 4095/4096, 1; 1/8192, 1/10, 1 and a square, less than 0, infinite, none
paper : on_paper f32_0 ∷ on_paper (neg f32_0) ∷ on_paper (f32 1 4096) ∷ on_paper (f32 4095 4096) ∷ on_paper f32_1
    ∷ on_paper (f32 1 8192) ∷ on_paper (f32 1 10) ∷ on_paper (f32 4097 4096) ∷ on_paper (neg (f32 1 4096)) ∷ on_paper (inf false) ∷ on_paper nan ∷ []
    ≡ true ∷ true ∷ true ∷ true ∷ true ∷ false ∷ false ∷ false ∷ false ∷ false ∷ false ∷ []
unfolding on_paper is_multiple le of_bits neg round
paper = refl

-- document 01's "legs of bits 3f3504f3": a leg of the default path
diamond : leg_of f32_½ f32_0 f32_1 f32_½ ≡ of_bits binary32 0x3f35_04f3
unfolding squares_of multiples_in clamp_of lt root_of significand_of halved count_leading_zeros of_bits
diamond = refl

-- no leg, 1 square, the diagonal of 1 square, 3 and 4 squares, the side, the diagonal, and the one before it
roots : root_of 0 ∷ root_of 1 ∷ root_of 2 ∷ root_of (3 ² + 4 ²) ∷ root_of (4096 ²) ∷ root_of (4096 ² + 4096 ²) ∷ root_of (4095 ² + 4096 ²) ∷ []
    ≡ f32_0 ∷ f32 1 4096 ∷ of_bits binary32 0x39b5_04f3 ∷ f32 5 4096 ∷ f32_1 ∷ of_bits binary32 0x3fb5_04f3 ∷ of_bits binary32 0x3fb4_ff4b ∷ []
unfolding root_of significand_of halved count_leading_zeros of_bits round
roots = refl
