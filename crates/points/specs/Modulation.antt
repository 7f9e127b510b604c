-- How far a bus moves a coordinate. Assumes nothing.
use Rattle.std.specs.Prelude.{ℕ, ◌<◌, cond, List, T, ltb, get_or, Float, Option, None, Some}
use Rattle.std.specs.Float.{nan}
use Rattle.std.specs.Float.Ieee.Scale.{finite}
use Rattle.floatlaws.specs.Numbers.{f32_0, f32_1}
use Rattle.floatlaws.specs.Rounded.{◌+₃₂◌, ◌×₃₂◌}
use Rattle.floatlaws.specs.Extrema.{clamp_of}
use Rattle.points.specs.declared.PointMod.{PointMod}

-- the value of a bus, 0 to 15; a bus above 15 counts as 0
unfoldable pub bus_value : List Float → ℕ → Float
bus_value buses bus = cond (ltb bus 16) (get_or buses bus nan) f32_0

-- The bus's value times the depth. Of a bus above 15 that is 0 × depth: 0, or -0 for a negative depth.
unfoldable pub offset_of : Option PointMod → List Float → Float
offset_of None buses = f32_0
offset_of (Some m) buses = bus_value buses m.bus ×₃₂ m.depth

-- a coordinate moved by its bus
abbrev pub moved_of : Float → Option PointMod → List Float → Float
moved_of at m buses = at +₃₂ offset_of m buses

-- a coordinate moved by its bus, inside the unit square
unfoldable pub placed_of : Float → Option PointMod → List Float → Float
placed_of at m buses = clamp_of (moved_of at m buses) f32_0 f32_1

-- ---- what the laws speak of

-- as question 2 asks of a modulation: its depth is finite
abbrev pub FiniteMod : Option PointMod → Type 0
FiniteMod None = Unit {0}
FiniteMod (Some m) = T (finite m.depth)

-- and of the buses
abbrev pub FiniteBuses : List Float → Type 0
FiniteBuses buses = (k : ℕ) → k < 16 → T (finite (get_or buses k nan))
