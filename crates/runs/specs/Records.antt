-- Settings, transports and restarts in a run, each a line of docs/RUN.md. A field of a case that was not chosen is not there. Assumes nothing.
use Rattle.std.specs.Prelude.{eqb, ltb}
use Rattle.floatlaws.specs.Numbers.{f32_0}
use Rattle.codes.specs.declared.RateCodes.{RateCodes}
use Rattle.codes.specs.declared.SpanCodes.{SpanCodes}
use Rattle.codes.specs.declared.ScaleCodes.{ScaleCodes}
use Rattle.codes.specs.declared.SmoothCodes.{SmoothCodes}
use Rattle.codes.specs.declared.SettingsCodes.{SettingsCodes}
use Rattle.codes.specs.declared.TransportCodes.{TransportCodes}
use Rattle.codes.specs.declared.RestartCodes.{RestartCodes}
use Rattle.fields.specs.Parser.{Parser, ◌then◌, done, when}
use Rattle.fields.specs.Fields.{number, short, f32, f64}

-- rate = 0 division feel | 1 hz x10
unfoldable pub rate : Parser RateCodes
rate =
    number then λ code.
    when (eqb code 0) 0 number then λ division.
    when (eqb code 0) 0 number then λ feel.
    when (eqb code 1) f32_0 f32 then λ hz.
    when (eqb code 1) 0 number then λ x10.
    done (record { code = code; division = division; feel = feel; hz = hz; x10 = x10 })

-- span = 0 | 1 division | 2 seconds
unfoldable pub span : Parser SpanCodes
span =
    number then λ code.
    when (eqb code 1) 0 number then λ division.
    when (eqb code 2) f32_0 f32 then λ seconds.
    done (record { code = code; division = division; seconds = seconds })

-- smooth = 0 | 1 coefficient
unfoldable pub smooth : Parser SmoothCodes
smooth = number then λ code. when (eqb code 1) f32_0 f32 then λ coefficient. done (record { code = code; coefficient = coefficient })

-- settings = kind mode direction rate song_lock swing fade_in delay smooth phase phase_snap grid_x
unfoldable pub settings : Parser SettingsCodes
settings =
    number then λ kind.
    number then λ mode.
    number then λ direction.
    rate then λ rate.
    number then λ lock.
    number then λ swing.
    span then λ fade.
    span then λ delay.
    smooth then λ smooth.
    f32 then λ phase.
    number then λ snap.
    short then λ grid.
    done
    (record {
      kind = kind;
      mode = mode;
      direction = direction;
      rate = rate;
      song_lock = lock;
      swing = swing;
      fade_in = fade;
      delay = delay;
      smooth = smooth;
      phase = phase;
      phase_snap = snap;
      grid_x = grid;
    })

-- scale = 0 percent | 1 percent
unfoldable pub scale : Parser ScaleCodes
scale = number then λ code. when (ltb code 2) f32_0 f32 then λ percent. done (record { code = code; percent = percent })

-- transport = sample_rate tempo beats_per_bar playing beats seconds swing scale
unfoldable pub transport : Parser TransportCodes
transport =
    f64 then λ rate.
    f64 then λ tempo.
    f64 then λ bar.
    number then λ playing.
    f64 then λ beats.
    f64 then λ seconds.
    f32 then λ swing.
    scale then λ scale.
    done
    (record {
      sample_rate = rate;
      tempo = tempo;
      beats_per_bar = bar;
      playing = playing;
      beats = beats;
      seconds = seconds;
      swing = swing;
      scale = scale;
    })

-- restart = 0 | 1 frame
unfoldable pub restart : Parser RestartCodes
restart = number then λ code. when (eqb code 1) 0 number then λ frame. done (record { code = code; frame = frame })
