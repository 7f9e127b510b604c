-- Shapes and paths in a run, each a line of docs/RUN.md. Assumes nothing.
use Rattle.std.specs.Prelude.{ℕ, zero, suc, List, eqb, set, replicate}
use Rattle.floatlaws.specs.Numbers.{f32_0}
use Rattle.codes.specs.declared.ModCodes.{ModCodes}
use Rattle.codes.specs.declared.PointCodes.{PointCodes}
use Rattle.codes.specs.declared.PathPointCodes.{PathPointCodes}
use Rattle.codes.specs.declared.LoopbackCodes.{LoopbackCodes}
use Rattle.codes.specs.declared.ShapeCodes.{ShapeCodes}
use Rattle.codes.specs.declared.PathCodes.{PathCodes}
use Rattle.codes.specs.Blanks.{blank_point, blank_path_point}
use Rattle.fields.specs.Parser.{Parser, ◌then◌, done, when}
use Rattle.fields.specs.Fields.{number, up_to, byte, f32}

-- "a count above 4,096 of points" is malformed
abbrev pub count : Parser ℕ
count = up_to 4096

-- n of a kind, of which an array has the first 64: `set` past its end changes nothing
unfoldable pub kept : {A : Type 0} → A → Parser A → ℕ → Parser (List A)
kept blank p zero = done (replicate 64 blank)
kept blank p (suc n) = kept blank p n then λ l. p then λ a. done (set l n a)

-- mod = 0 | 1 bus depth
unfoldable pub modulation : Parser ModCodes
modulation =
    number then λ code.
    when (eqb code 1) 0 byte then λ bus.
    when (eqb code 1) f32_0 f32 then λ depth.
    done (record { code = code; bus = bus; depth = depth })

-- ---- shapes

-- point = x y curve step mod mod (x_mod, then y_mod)
unfoldable pub point : Parser PointCodes
point =
    f32 then λ x.
    f32 then λ y.
    f32 then λ curve.
    number then λ step.
    modulation then λ x_mod.
    modulation then λ y_mod.
    done (record { x = x; y = y; curve = curve; step = step; x_mod = x_mod; y_mod = y_mod })

abbrev pub points : ℕ → Parser (List PointCodes)
points = kept blank_point point

-- loopback = 0 | 1 index
unfoldable pub loopback : Parser LoopbackCodes
loopback = number then λ code. when (eqb code 1) 0 number then λ index. done (record { code = code; index = index })

-- shape = count point.. loopback
unfoldable pub shape : Parser ShapeCodes
shape =
    count then λ n.
    points n then λ points.
    loopback then λ loopback.
    done (record { points = points; count = n; loopback = loopback })

-- ---- paths

-- ppoint = x y bend mod mod
unfoldable pub path_point : Parser PathPointCodes
path_point =
    f32 then λ x.
    f32 then λ y.
    f32 then λ bend.
    modulation then λ x_mod.
    modulation then λ y_mod.
    done (record { x = x; y = y; bend = bend; x_mod = x_mod; y_mod = y_mod })

abbrev pub path_points : ℕ → Parser (List PathPointCodes)
path_points = kept blank_path_point path_point

-- path = count closed ppoint..
unfoldable pub path : Parser PathCodes
path =
    count then λ n.
    number then λ closed.
    path_points n then λ points.
    done (record { points = points; count = n; closed = closed })
