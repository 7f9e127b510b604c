-- What the questions test, each of what a call hands in: one test a question and a thing handed in, of which the lists of questions are made. Fields of a case that was not
-- chosen, and what stands under "absent", are not looked at. Assumes nothing.
use Rattle.std.specs.Prelude.{ℕ, zero, suc, min, Bool, true, ◌&&◌, cond, List, eqb, ltb, get_or, Float}
use Rattle.std.specs.Float.Ieee.{le}
use Rattle.std.specs.Float.Ieee.Scale.{finite}
use Rattle.floatlaws.specs.Numbers.{f32_0, f32_1, f64_0, f64_¼}
use Rattle.codes.specs.declared.SettingsCodes.{SettingsCodes}
use Rattle.codes.specs.declared.SmoothCodes.{SmoothCodes}
use Rattle.codes.specs.declared.TransportCodes.{TransportCodes}
use Rattle.codes.specs.declared.RateCodes.{RateCodes}
use Rattle.codes.specs.declared.SpanCodes.{SpanCodes}
use Rattle.bend.specs.Grid.{clamped_curve, on_grid}
use Rattle.leg.specs.Paper.{on_paper}
use Rattle.codes.specs.declared.ModCodes.{ModCodes}
use Rattle.codes.specs.declared.PointCodes.{PointCodes}
use Rattle.codes.specs.declared.PathPointCodes.{PathPointCodes}
use Rattle.codes.specs.declared.LoopbackCodes.{LoopbackCodes}
use Rattle.codes.specs.declared.ShapeCodes.{ShapeCodes}
use Rattle.codes.specs.declared.PathCodes.{PathCodes}
use Rattle.curves.specs.Given.{no_point_codes, no_path_point_codes}
use Rattle.questions.specs.Limits.{f64_64, f64_1000, f64_768000, f64_2147483647, f64_minus2147483648}

-- a test of 0, 1, .. n - 1
unfoldable pub every : (ℕ → Bool) → ℕ → Bool
every t zero = true
every t (suc n) = every t n && t n

-- a test of each point that is kept of `count`, of which a list begins with the first 64
unfoldable pub every_kept : {A : Type 0} → (A → Bool) → A → List A → ℕ → Bool
every_kept t none points count = every (λ k. t (get_or points k none)) (min count 64)

abbrev pub between : Float → Float → Float → Bool
between lo x hi = le lo x && le x hi

-- ---- 1. "Is each code known"; of settings and transports `settings_known` and `transport_known` of crate settings

abbrev pub mod_known : ModCodes → Bool
mod_known c = ltb c.code 2

unfoldable pub point_known : PointCodes → Bool
point_known c = ltb c.step 2 && mod_known c.x_mod && mod_known c.y_mod

unfoldable pub shape_known : ShapeCodes → Bool
shape_known c = every_kept point_known no_point_codes c.points c.count && ltb c.loopback.code 2

unfoldable pub path_point_known : PathPointCodes → Bool
path_point_known c = mod_known c.x_mod && mod_known c.y_mod

unfoldable pub path_known : PathCodes → Bool
path_known c = every_kept path_point_known no_path_point_codes c.points c.count && ltb c.closed 2

-- ---- 2. "Is each float finite"

abbrev pub rate_finite : RateCodes → Bool
rate_finite c = cond (eqb c.code 1) (finite c.hz) true

abbrev pub span_finite : SpanCodes → Bool
span_finite c = cond (eqb c.code 2) (finite c.seconds) true

abbrev pub smooth_finite : SmoothCodes → Bool
smooth_finite c = cond (eqb c.code 1) (finite c.coefficient) true

unfoldable pub settings_finite : SettingsCodes → Bool
settings_finite c = rate_finite c.rate && span_finite c.fade_in && span_finite c.delay && smooth_finite c.smooth && finite c.phase

abbrev pub mod_finite : ModCodes → Bool
mod_finite c = cond (eqb c.code 1) (finite c.depth) true

unfoldable pub point_finite : PointCodes → Bool
point_finite c = finite c.x && finite c.y && finite c.curve && mod_finite c.x_mod && mod_finite c.y_mod

unfoldable pub shape_finite : ShapeCodes → Bool
shape_finite c = every_kept point_finite no_point_codes c.points c.count

unfoldable pub path_point_finite : PathPointCodes → Bool
path_point_finite c = finite c.x && finite c.y && finite c.bend && mod_finite c.x_mod && mod_finite c.y_mod

unfoldable pub path_finite : PathCodes → Bool
path_finite c = every_kept path_point_finite no_path_point_codes c.points c.count

unfoldable pub transport_finite : TransportCodes → Bool
transport_finite c =
    finite c.sample_rate
    && finite c.tempo
    && finite c.beats_per_bar
    && finite c.beats
    && finite c.seconds
    && finite c.swing
    && finite c.scale.percent

-- ---- 4. "Is the loopback, if present, below the number of points kept"

abbrev pub loopback_below : LoopbackCodes → ℕ → Bool
loopback_below c n = cond (eqb c.code 1) (ltb c.index n) true

unfoldable pub loopback_in : ShapeCodes → Bool
loopback_in c = loopback_below c.loopback (min c.count 64)

-- ---- 11. "A path coordinate that is no multiple of 1/4096 within 0 to 1 gets 11"

abbrev pub path_point_on_paper : PathPointCodes → Bool
path_point_on_paper c = on_paper c.x && on_paper c.y

unfoldable pub path_on_paper : PathCodes → Bool
path_on_paper c = every_kept path_point_on_paper no_path_point_codes c.points c.count

-- ---- 10. "A clamped curve off the grid is refused with 10"

abbrev pub point_on_grid : PointCodes → Bool
point_on_grid c = on_grid (clamped_curve c.curve)

unfoldable pub shape_on_grid : ShapeCodes → Bool
shape_on_grid c = every_kept point_on_grid no_point_codes c.points c.count

-- ---- 5. "Is .. the smoothing coefficient, if present, within 0 to 1"

abbrev pub smooth_in : SmoothCodes → Bool
smooth_in c = cond (eqb c.code 1) (between f32_0 c.coefficient f32_1) true

-- ---- 6. "sample rate 1,000 to 768,000; tempo 0 to 1,000; beats per bar 0.25 to 64; beats and seconds −2,147,483,648 to 2,147,483,647"

unfoldable pub transport_in : TransportCodes → Bool
transport_in c =
    between f64_1000 c.sample_rate f64_768000
    && between f64_0 c.tempo f64_1000
    && between f64_¼ c.beats_per_bar f64_64
    && between f64_minus2147483648 c.beats f64_2147483647
    && between f64_minus2147483648 c.seconds f64_2147483647
