-- What is read at a place of a record, field by field in W-203's order, each judged once its last byte is read. A field of a case that was not chosen is not there. Assumes nothing.
use Rattle.std.specs.Prelude.{ℕ, ◌-◌, Bool, ◌&&◌, List, eqb, length, get_or, Float}
use Rattle.std.specs.Float.Ieee.{le}
use Rattle.std.specs.Float.Ieee.Scale.{finite}
use Rattle.floatlaws.specs.Numbers.{f32_0, f32_1, f32_minus1}
use Rattle.codes.specs.declared.RateCodes.{RateCodes}
use Rattle.codes.specs.declared.SpanCodes.{SpanCodes}
use Rattle.codes.specs.declared.ScaleCodes.{ScaleCodes}
use Rattle.codes.specs.declared.SmoothCodes.{SmoothCodes}
use Rattle.codes.specs.declared.SettingsCodes.{SettingsCodes}
use Rattle.codes.specs.declared.ModCodes.{ModCodes}
use Rattle.codes.specs.declared.PointCodes.{PointCodes}
use Rattle.codes.specs.declared.PathPointCodes.{PathPointCodes}
use Rattle.codes.specs.declared.LoopbackCodes.{LoopbackCodes}
use Rattle.codes.specs.declared.ShapeCodes.{ShapeCodes}
use Rattle.codes.specs.declared.PathCodes.{PathCodes}
use Rattle.codes.specs.declared.ItemCodes.{ItemCodes}
use Rattle.listlaws.specs.Tables.{padded}
use Rattle.questions.specs.Tests.{between}
use Rattle.fields.specs.Parser.{Parser, ◌then◌, done, ◌that◌, when, row}
use Rattle.fields.specs.Fields.{number, below, up_to, yes_no, byte, short, f32, f64}
use Rattle.codes.specs.Blanks.{blank_point, blank_path_point}

-- ---- "Settings as in lfo/mod.rs without shared, grid_y and smooth, the coefficient in smooth's place"

-- 0 division feel | 1 hz x10
unfoldable pub rate : Parser RateCodes
rate =
    below 2 then λ code.
    when (eqb code 0) 0 (below 15) then λ division.
    when (eqb code 0) 0 (below 3) then λ feel.
    when (eqb code 1) f32_0 f32 then λ hz.
    when (eqb code 1) 0 yes_no then λ x10.
    done (record { code = code; division = division; feel = feel; hz = hz; x10 = x10 })

-- 0 | 1 division | 2 seconds
unfoldable pub span : Parser SpanCodes
span =
    below 3 then λ code.
    when (eqb code 1) 0 (below 15) then λ division.
    when (eqb code 2) f32_0 f32 then λ seconds.
    done (record { code = code; division = division; seconds = seconds })

-- 0 | 1 coefficient
unfoldable pub smooth : Parser SmoothCodes
smooth = below 2 then λ code. when (eqb code 1) f32_0 f32 then λ coefficient. done (record { code = code; coefficient = coefficient })

unfoldable pub settings : Parser SettingsCodes
settings =
    below 5 then λ kind.
    below 3 then λ mode.
    below 3 then λ direction.
    rate then λ rate.
    yes_no then λ lock.
    yes_no then λ swing.
    span then λ fade.
    span then λ delay.
    smooth then λ smooth.
    f32 then λ phase.
    yes_no then λ snap.
    short then λ grid.
    done
    (record {
      kind = kind;
      mode = mode;
      direction = direction;
      rate = rate;
      song_lock = lock;
      swing = swing;
      fade_in = fade;
      delay = delay;
      smooth = smooth;
      phase = phase;
      phase_snap = snap;
      grid_x = grid;
    })

-- ---- points, "in the order of lfo/shape.rs": a float "that is not finite or that the player would clamp or move gives 13". What lies between two numbers is finite.

-- 0 | 1 bus depth
unfoldable pub modulation : Parser ModCodes
modulation =
    below 2 then λ code.
    when (eqb code 1) 0 byte then λ bus.
    when (eqb code 1) f32_0 (f32 that finite) then λ depth.
    done (record { code = code; bus = bus; depth = depth })

abbrev pub in_unit : Float → Bool
in_unit x = between f32_0 x f32_1

abbrev pub in_bend : Float → Bool
in_bend x = between f32_minus1 x f32_1

-- the x of the last of some points, from which the next one goes on; 0 where there is none
abbrev pub last_x : List PointCodes → Float
last_x l = (get_or l (length l - 1) blank_point).x

-- a point after one with the x `before`
unfoldable pub point : Float → Parser PointCodes
point before =
    f32 that (λ x. in_unit x && le before x) then λ x.
    f32 that in_unit then λ y.
    f32 that in_bend then λ curve.
    yes_no then λ step.
    modulation then λ x_mod.
    modulation then λ y_mod.
    done (record { x = x; y = y; curve = curve; step = step; x_mod = x_mod; y_mod = y_mod })

-- "a finite path coordinate outside 0 to 1 is left to 11"
unfoldable pub path_point : Parser PathPointCodes
path_point =
    f32 that finite then λ x.
    f32 that finite then λ y.
    f32 that in_bend then λ bend.
    modulation then λ x_mod.
    modulation then λ y_mod.
    done (record { x = x; y = y; bend = bend; x_mod = x_mod; y_mod = y_mod })

-- ---- curves: an array begins with the points, and blank ones follow

-- a number "counting over 64 points .. gives 13"
abbrev pub point_count : Parser ℕ
point_count = up_to 64

-- 0 | 1 index
unfoldable pub loopback : Parser LoopbackCodes
loopback = below 2 then λ code. when (eqb code 1) 0 number then λ index. done (record { code = code; index = index })

-- "shape point count, points, loopback"
unfoldable pub shape : Parser ShapeCodes
shape =
    point_count then λ count.
    row (λ l. point (last_x l)) count then λ points.
    loopback then λ loopback.
    done (record { points = padded 64 blank_point points; count = count; loopback = loopback })

-- "path count, closed, points"
unfoldable pub path : Parser PathCodes
path =
    point_count then λ count.
    yes_no then λ closed.
    row (λ l. path_point) count then λ points.
    done (record { points = padded 64 blank_path_point points; count = count; closed = closed })

-- ---- the item, from a place on

-- 0 percent | 1 percent
unfoldable pub scale : Parser ScaleCodes
scale = below 2 then λ code. f32 then λ percent. done (record { code = code; percent = percent })

-- Settings, shape, path, "16 buses; seed; tempo, beats per bar, swing, scale": the order, whichever way the parts are read
abbrev pub item_by : Parser SettingsCodes → Parser ShapeCodes → Parser PathCodes → Parser ScaleCodes → Parser ItemCodes
item_by settings shape path scale =
    settings then λ settings.
    shape then λ shape.
    path then λ path.
    row (λ l. f32) 16 then λ buses.
    number then λ seed.
    f64 then λ tempo.
    f64 then λ bar.
    f32 then λ swing.
    scale then λ scale.
    done
    (record {
      settings = settings;
      shape = shape;
      path = path;
      buses = buses;
      seed = seed;
      tempo = tempo;
      beats_per_bar = bar;
      swing = swing;
      scale = scale;
    })

unfoldable pub item : Parser ItemCodes
item = item_by settings shape path scale
