-- The bytes of an item, in W-203's order. Assumes nothing.
use Rattle.std.specs.Prelude.{ℕ, List, ◌++◌, eqb, take}
use Rattle.codes.specs.declared.RateCodes.{RateCodes}
use Rattle.codes.specs.declared.SpanCodes.{SpanCodes}
use Rattle.codes.specs.declared.ScaleCodes.{ScaleCodes}
use Rattle.codes.specs.declared.SmoothCodes.{SmoothCodes}
use Rattle.codes.specs.declared.SettingsCodes.{SettingsCodes}
use Rattle.codes.specs.declared.ModCodes.{ModCodes}
use Rattle.codes.specs.declared.PointCodes.{PointCodes}
use Rattle.codes.specs.declared.PathPointCodes.{PathPointCodes}
use Rattle.codes.specs.declared.LoopbackCodes.{LoopbackCodes}
use Rattle.codes.specs.declared.ShapeCodes.{ShapeCodes}
use Rattle.codes.specs.declared.PathCodes.{PathCodes}
use Rattle.codes.specs.declared.ItemCodes.{ItemCodes}
use Rattle.fields.specs.Bytes.{number_bytes, f32_bytes, f64_bytes, when_bytes, row_bytes}

unfoldable pub rate_bytes : RateCodes → List ℕ
rate_bytes c =
    number_bytes c.code
    ++ when_bytes (eqb c.code 0) (number_bytes c.division)
    ++ when_bytes (eqb c.code 0) (number_bytes c.feel)
    ++ when_bytes (eqb c.code 1) (f32_bytes c.hz)
    ++ when_bytes (eqb c.code 1) (number_bytes c.x10)

unfoldable pub span_bytes : SpanCodes → List ℕ
span_bytes c = number_bytes c.code ++ when_bytes (eqb c.code 1) (number_bytes c.division) ++ when_bytes (eqb c.code 2) (f32_bytes c.seconds)

unfoldable pub smooth_bytes : SmoothCodes → List ℕ
smooth_bytes c = number_bytes c.code ++ when_bytes (eqb c.code 1) (f32_bytes c.coefficient)

unfoldable pub settings_bytes : SettingsCodes → List ℕ
settings_bytes c =
    number_bytes c.kind
    ++ number_bytes c.mode
    ++ number_bytes c.direction
    ++ rate_bytes c.rate
    ++ number_bytes c.song_lock
    ++ number_bytes c.swing
    ++ span_bytes c.fade_in
    ++ span_bytes c.delay
    ++ smooth_bytes c.smooth
    ++ f32_bytes c.phase
    ++ number_bytes c.phase_snap
    ++ number_bytes c.grid_x

unfoldable pub modulation_bytes : ModCodes → List ℕ
modulation_bytes c = number_bytes c.code ++ when_bytes (eqb c.code 1) (number_bytes c.bus) ++ when_bytes (eqb c.code 1) (f32_bytes c.depth)

unfoldable pub point_bytes : PointCodes → List ℕ
point_bytes c =
    f32_bytes c.x
    ++ f32_bytes c.y
    ++ f32_bytes c.curve
    ++ number_bytes c.step
    ++ modulation_bytes c.x_mod
    ++ modulation_bytes c.y_mod

unfoldable pub path_point_bytes : PathPointCodes → List ℕ
path_point_bytes c = f32_bytes c.x ++ f32_bytes c.y ++ f32_bytes c.bend ++ modulation_bytes c.x_mod ++ modulation_bytes c.y_mod

unfoldable pub loopback_bytes : LoopbackCodes → List ℕ
loopback_bytes c = number_bytes c.code ++ when_bytes (eqb c.code 1) (number_bytes c.index)

-- "shape point count, points, loopback"
unfoldable pub shape_bytes : ShapeCodes → List ℕ
shape_bytes c = number_bytes c.count ++ row_bytes point_bytes (take c.count c.points) ++ loopback_bytes c.loopback

-- "path count, closed, points"
unfoldable pub path_bytes : PathCodes → List ℕ
path_bytes c = number_bytes c.count ++ number_bytes c.closed ++ row_bytes path_point_bytes (take c.count c.points)

unfoldable pub scale_bytes : ScaleCodes → List ℕ
scale_bytes c = number_bytes c.code ++ f32_bytes c.percent

unfoldable pub item_bytes : ItemCodes → List ℕ
item_bytes i =
    settings_bytes i.settings
    ++ shape_bytes i.shape
    ++ path_bytes i.path
    ++ row_bytes f32_bytes i.buses
    ++ number_bytes i.seed
    ++ f64_bytes i.tempo
    ++ f64_bytes i.beats_per_bar
    ++ f32_bytes i.swing
    ++ scale_bytes i.scale
