-- The shape and the path that codes stand for: of `count` points the first 64. Of a code that question 1 refuses nothing is meant: it counts as absent, or as no. Assumes nothing.
use Rattle.std.specs.Prelude.{ℕ, min, Bool, cond, List, eqb, get_or, None, Option, Some}
use Rattle.std.specs.Float.{nan}
use Rattle.listlaws.specs.Tables.{tabulate, padded}
use Rattle.points.specs.declared.PointMod.{PointMod}
use Rattle.shape.specs.declared.sorting.Point.{Point}
use Rattle.shape.specs.declared.Shape.{Shape}
use Rattle.shape.specs.Points.{blank}
use Rattle.shape.specs.Shapes.{new_shape, with_loopback}
use Rattle.path.specs.declared.PathPoint.{PathPoint}
use Rattle.path.specs.declared.Path.{Path}
use Rattle.path.specs.Paths.{blank_path_point, path_of}
use Rattle.codes.specs.declared.ModCodes.{ModCodes}
use Rattle.codes.specs.declared.PointCodes.{PointCodes}
use Rattle.codes.specs.declared.PathPointCodes.{PathPointCodes}
use Rattle.codes.specs.declared.LoopbackCodes.{LoopbackCodes}
use Rattle.codes.specs.declared.ShapeCodes.{ShapeCodes}
use Rattle.codes.specs.declared.PathCodes.{PathCodes}

abbrev pub is_yes : ℕ → Bool
is_yes code = eqb code 1

unfoldable pub mod_of : ModCodes → Option PointMod
mod_of c = cond (is_yes c.code) (Some (record { bus = c.bus; depth = c.depth })) None

-- what `get_or` gives past a list's end; no definition here looks there
abbrev pub no_mod : ModCodes
no_mod = record { code = 0; bus = 0; depth = nan }

-- ---- a shape

abbrev pub no_point_codes : PointCodes
no_point_codes = record { x = nan; y = nan; curve = nan; step = 0; x_mod = no_mod; y_mod = no_mod }

unfoldable pub point_of : PointCodes → Point
point_of c = record { x = c.x; y = c.y; curve = c.curve; step = is_yes c.step; x_mod = mod_of c.x_mod; y_mod = mod_of c.y_mod }

-- the first n points
unfoldable pub given_points : List PointCodes → ℕ → List Point
given_points points n = padded 64 blank (tabulate (λ i. point_of (get_or points i no_point_codes)) n)

unfoldable pub loopback_of : LoopbackCodes → Option ℕ
loopback_of c = cond (is_yes c.code) (Some c.index) None

unfoldable pub given_shape : ShapeCodes → Shape
given_shape c = with_loopback (new_shape (given_points c.points (min c.count 64)) c.count) (loopback_of c.loopback)

-- ---- a path

abbrev pub no_path_point_codes : PathPointCodes
no_path_point_codes = record { x = nan; y = nan; bend = nan; x_mod = no_mod; y_mod = no_mod }

unfoldable pub path_point_of : PathPointCodes → PathPoint
path_point_of c = record { x = c.x; y = c.y; bend = c.bend; x_mod = mod_of c.x_mod; y_mod = mod_of c.y_mod }

unfoldable pub given_path_points : List PathPointCodes → ℕ → List PathPoint
given_path_points points n = padded 64 blank_path_point (tabulate (λ i. path_point_of (get_or points i no_path_point_codes)) n)

unfoldable pub given_path : PathCodes → Path
given_path c = path_of (given_path_points c.points (min c.count 64)) c.count (is_yes c.closed)
