-- Document 01's default path: "four legs of bits 3f3504f3", by computation. Assumes nothing.
use Rattle.std.specs.Prelude.{◌≡◌, refl, replicate, take}
use Rattle.std.specs.Int.Count.{count_leading_zeros}
use Rattle.std.specs.Float.{binary32}
use Rattle.std.specs.Float.Ieee.{of_bits, lt, neg}
use Rattle.floatlaws.specs.Extrema.{clamp_of}
use Rattle.floatlaws.specs.Multiples.{multiples_in}
use Rattle.listlaws.specs.Tables.{tabulate}
use Rattle.leg.specs.Paper.{squares_of}
use Rattle.leg.specs.Root.{halved, significand_of, root_of}
use Rattle.path.specs.Paths.{leg_at, legs_of, default_path, path_of, clamped_path, clamped_path_point}

default_legs : take 4 (legs_of default_path.points 4 4) ≡ replicate 4 (of_bits binary32 0x3f35_04f3)
unfolding default_path path_of clamped_path clamped_path_point clamp_of lt neg legs_of leg_at tabulate squares_of multiples_in root_of significand_of halved count_leading_zeros of_bits
default_legs = refl
