-- The grid of a curve: the multiples of 1/1024 from -1 to 1, with the indexes 0 to 2048. Assumes nothing.
use Rattle.std.specs.Prelude.{ℕ, ◌+◌, ◌-◌, Bool, cond, Float}
use Rattle.floatlaws.specs.Numbers.{f32_1, f32_minus1}
use Rattle.floatlaws.specs.Extrema.{signed, clamp_of}
use Rattle.floatlaws.specs.Multiples.{is_multiple, multiples_in}

-- a point's curve as it is kept, from -1 to 1
abbrev pub clamped_curve : Float → Float
clamped_curve curve = clamp_of curve f32_minus1 f32_1

-- "Setters of questions draw bends on a knob of 1/1024 steps."
abbrev pub on_grid : Float → Bool
on_grid x = is_multiple 1024 x

-- The index of a clamped curve: 0 for -1, 1024 for 0 and for -0, 2048 for 1. Off the grid, where no accepted call is, it is that of the next multiple towards 0; a NaN counts as 0.
unfoldable pub grid_index : Float → ℕ
grid_index x = cond (signed x) (1024 - multiples_in 1024 x) (1024 + multiples_in 1024 x)
