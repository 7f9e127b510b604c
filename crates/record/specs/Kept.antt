-- An item as it is kept: fields of a case that was not chosen are 0, and the points are those that the player keeps. Assumes nothing.
use Rattle.std.specs.Prelude.{cond, map, eqb, Option, None, Some}
use Rattle.floatlaws.specs.Numbers.{f32_0}
use Rattle.points.specs.declared.PointMod.{PointMod}
use Rattle.shape.specs.declared.sorting.Point.{Point}
use Rattle.path.specs.declared.PathPoint.{PathPoint}
use Rattle.codes.specs.declared.RateCodes.{RateCodes}
use Rattle.codes.specs.declared.SpanCodes.{SpanCodes}
use Rattle.codes.specs.declared.SmoothCodes.{SmoothCodes}
use Rattle.codes.specs.declared.SettingsCodes.{SettingsCodes}
use Rattle.codes.specs.declared.ModCodes.{ModCodes}
use Rattle.codes.specs.declared.PointCodes.{PointCodes}
use Rattle.codes.specs.declared.PathPointCodes.{PathPointCodes}
use Rattle.codes.specs.declared.LoopbackCodes.{LoopbackCodes}
use Rattle.codes.specs.declared.ShapeCodes.{ShapeCodes}
use Rattle.codes.specs.declared.PathCodes.{PathCodes}
use Rattle.codes.specs.declared.ItemCodes.{ItemCodes}
use Rattle.curves.specs.Given.{given_shape, given_path}
use Rattle.codes.specs.Blanks.{blank_mod}

-- ---- settings and a loopback: as handed in. A field of a case that was not chosen has no bytes, and is read as 0.

unfoldable pub kept_rate : RateCodes → RateCodes
kept_rate c =
    record {
      code = c.code;
      division = cond (eqb c.code 0) c.division 0;
      feel = cond (eqb c.code 0) c.feel 0;
      hz = cond (eqb c.code 1) c.hz f32_0;
      x10 = cond (eqb c.code 1) c.x10 0;
    }

unfoldable pub kept_span : SpanCodes → SpanCodes
kept_span c = record { code = c.code; division = cond (eqb c.code 1) c.division 0; seconds = cond (eqb c.code 2) c.seconds f32_0 }

unfoldable pub kept_smooth : SmoothCodes → SmoothCodes
kept_smooth c = record { code = c.code; coefficient = cond (eqb c.code 1) c.coefficient f32_0 }

unfoldable pub kept_settings : SettingsCodes → SettingsCodes
kept_settings c =
    record {
      kind = c.kind;
      mode = c.mode;
      direction = c.direction;
      rate = kept_rate c.rate;
      song_lock = c.song_lock;
      swing = c.swing;
      fade_in = kept_span c.fade_in;
      delay = kept_span c.delay;
      smooth = kept_smooth c.smooth;
      phase = c.phase;
      phase_snap = c.phase_snap;
      grid_x = c.grid_x;
    }

unfoldable pub kept_loopback : LoopbackCodes → LoopbackCodes
kept_loopback c = record { code = c.code; index = cond (eqb c.code 1) c.index 0 }

-- ---- points: "as the player keeps them". `given_shape` and `given_path` are what the calls give a player: the first 64 points, clamped, those of a shape sorted, and blank ones after them.

abbrev pub codes_of_mod : Option PointMod → ModCodes
codes_of_mod None = blank_mod
codes_of_mod (Some m) = record { code = 1; bus = m.bus; depth = m.depth }

abbrev pub codes_of_point : Point → PointCodes
codes_of_point p =
    record { x = p.x; y = p.y; curve = p.curve; step = cond p.step 1 0; x_mod = codes_of_mod p.x_mod; y_mod = codes_of_mod p.y_mod }

unfoldable pub kept_shape : ShapeCodes → ShapeCodes
kept_shape c = record { points = map codes_of_point (given_shape c).points; count = (given_shape c).len; loopback = kept_loopback c.loopback }

abbrev pub codes_of_path_point : PathPoint → PathPointCodes
codes_of_path_point p = record { x = p.x; y = p.y; bend = p.bend; x_mod = codes_of_mod p.x_mod; y_mod = codes_of_mod p.y_mod }

unfoldable pub kept_path : PathCodes → PathCodes
kept_path c = record { points = map codes_of_path_point (given_path c).points; count = (given_path c).len; closed = c.closed }

-- ---- the item

unfoldable pub kept : ItemCodes → ItemCodes
kept i =
    record {
      settings = kept_settings i.settings;
      shape = kept_shape i.shape;
      path = kept_path i.path;
      buses = i.buses;
      seed = i.seed;
      tempo = i.tempo;
      beats_per_bar = i.beats_per_bar;
      swing = i.swing;
      scale = i.scale;
    }
