-- An LFO slot as the rules see it: as it is made, its curve, and what holds of it. Assumes nothing.
use Rattle.std.specs.Prelude.{◌≡◌, ℕ, suc, ◌≤◌, List, length, replicate, Float}
use Rattle.floatlaws.specs.Numbers.{f32_0}
use Rattle.points.specs.Arrays.{Ascends}
use Rattle.points.specs.Modulation.{FiniteBuses}
use Rattle.shape.specs.declared.Shape.{Shape}
use Rattle.shape.specs.Shapes.{default_shape, NumbersX}
use Rattle.path_segments.specs.Times.{segments_of}
use Rattle.path.specs.declared.Path.{Path}
use Rattle.path.specs.Paths.{default_path}
use Rattle.settings.specs.declared.choices.LfoType.{LfoType}
use Rattle.settings.specs.declared.record.Settings.{Settings}
use Rattle.settings.specs.Records.{clamped_settings}
use Rattle.clock.specs.declared.free.Clock.{Clock}
use Rattle.clock.specs.Free.{new_clock}
use Rattle.reach.specs.Bounds.{ClockIn, SettingsIn}
use Rattle.voice.specs.Curve.{Curve}
use Rattle.slot.specs.Moved.{LoopbackIn, moved_curve}

-- its settings, curves, bus values and free clock
pub record Lfo : Type 0 where
  pub settings : Settings
  pub shape : Shape
  pub path : Path
  pub buses : List Float
  pub clock : Clock

-- as it is made
abbrev pub new_lfo : Settings → Lfo
new_lfo s = record { settings = clamped_settings s; shape = default_shape; path = default_path; buses = replicate 16 f32_0; clock = new_clock }

-- the curve that frames of a type read
abbrev pub slot_curve : LfoType → Lfo → Curve
slot_curve kind lfo = moved_curve kind lfo.shape lfo.path lfo.buses

-- with another clock
abbrev pub clocked_lfo : Lfo → Clock → Lfo
clocked_lfo lfo clock = record { settings = lfo.settings; shape = lfo.shape; path = lfo.path; buses = lfo.buses; clock = clock }

-- ---- what holds of it after `frames` frames, whatever voices played them

pub record ShapeIn (shape : Shape) : Type 0 where
  pub short : shape.len ≤ 64
  pub loopback_is_in : LoopbackIn shape.loopback shape.len
  -- wherever the buses move its points, their x are numbers
  pub moves : (buses : List Float) → FiniteBuses buses → NumbersX shape.points buses shape.len

pub record PathIn (path : Path) : Type 0 where
  pub short : path.len ≤ 64
  pub times_up : Ascends path.times (suc (segments_of path.len path.closed))

pub record BusesIn (buses : List Float) : Type 0 where
  pub long : length buses ≡ 16
  pub finite_all : FiniteBuses buses

pub record LfoIn (frames : ℕ) (lfo : Lfo) : Type 0 where
  pub settings_in : SettingsIn lfo.settings
  pub shape_in : ShapeIn lfo.shape
  pub path_in : PathIn lfo.path
  pub buses_in : BusesIn lfo.buses
  pub clock_in : ClockIn frames lfo.clock
