-- Some curves, which the definitions answer by computation. Assumes nothing.
use Rattle.std.specs.Prelude.{◌≡◌, ℕ, ◌^◌, true, false, [], ◌∷◌, refl, Float}
use Rattle.std.specs.Float.{nan, binary32}
use Rattle.std.specs.Float.Ieee.{neg, lt, of_bits, to_bits, round}
use Rattle.floatlaws.specs.Numbers.{f32_0, f32_½, f32_1, f32_2, f32}
use Rattle.floatlaws.specs.Extrema.{clamp_of}
use Rattle.floatlaws.specs.Multiples.{is_multiple, multiples_in}
use Rattle.bend.specs.Entries.{entries, entry_of}
use Rattle.bend.specs.Grid.{clamped_curve, on_grid, grid_index}
use Rattle.bend.specs.Strengths.{strength_at, strength_of}

abbrev bits : Float → ℕ
bits curve = to_bits binary32 (strength_of curve)

-- of -2, -1, -1/2, -0, 0, 1/2, 1 and 2, the first and the last being clamped: 1/16, 1/16, 1/4, 1, 1, 4, 16 and 16
powers : bits (neg f32_2) ∷ bits (neg f32_1) ∷ bits (neg f32_½) ∷ bits (neg f32_0) ∷ bits f32_0 ∷ bits f32_½ ∷ bits f32_1 ∷ bits f32_2 ∷ []
    ≡ 0x3d80_0000 ∷ 0x3d80_0000 ∷ 0x3e80_0000 ∷ 0x3f80_0000 ∷ 0x3f80_0000 ∷ 0x4080_0000 ∷ 0x4180_0000 ∷ 0x4180_0000 ∷ []
unfolding strength_of strength_at entry_of entries grid_index multiples_in clamp_of lt neg of_bits to_bits round
powers = refl

-- of 24/1024, 120/1024 and 165/1024, whose entries end in half of the last digit that is kept: a tie goes down, up and down
ties : bits (f32 24 1024) ∷ bits (f32 120 1024) ∷ bits (f32 165 1024) ∷ [] ≡ 0x3f88_980e ∷ 0x3fb1_23f6 ∷ 0x3fc8_17f6 ∷ []
unfolding strength_of strength_at entry_of entries grid_index multiples_in clamp_of lt neg of_bits to_bits round
ties = refl

-- -1/1024, 1023/1024, 1025/1024, which is clamped to 1, 1/2048, 2 ^ -149 and a NaN
grid : on_grid (clamped_curve (neg (f32 1 1024))) ∷ on_grid (clamped_curve (f32 1023 1024)) ∷ on_grid (clamped_curve (f32 1025 1024)) ∷ on_grid (clamped_curve (f32 1 2048)) ∷ on_grid (clamped_curve (f32 1 (2 ^ 149))) ∷ on_grid (clamped_curve nan) ∷ []
    ≡ true ∷ true ∷ true ∷ false ∷ false ∷ false ∷ []
unfolding is_multiple clamp_of lt neg of_bits round
grid = refl
