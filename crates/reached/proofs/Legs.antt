-- Every path that a player stores is on the paper, since question 11 was put to each that was handed in; its legs are the nearest, and its times are those of its legs. Assumes nothing.
use Prim.Native.Nat.{ℕ, zero, suc, ◌<◌}
use mathlib.Core.Path.{refl}
use mathlib.Core.Bool.{true}
use native.Mathlib.Omega.{arith}
use lib.ListN.{get_or}
use lib.Ieee.{lt, le, of_bits}
use Rattle.floatlaws.specs.Extrema.{clamp_of}
use Rattle.floatlaws.specs.Multiples.{is_multiple}
use Rattle.listlaws.specs.Tables.{tabulate}
use Rattle.leg.specs.Paper.{on_paper}
use Rattle.shape.specs.declared.Shape.{Shape}
use Rattle.path.specs.declared.Path.{Path}
use Rattle.path.specs.Paths.{no_path_point, PointOnPaper, clamped_path_point, clamped_path, path_of, path_legs, default_path}
use Rattle.path.proofs.PathLegs.{legs_between}
use Rattle.codes.specs.declared.PathCodes.{PathCodes}
use Rattle.curves.specs.Given.{given_path}
use Rattle.questions.proofs.Facts.{PathAccepted}
use Rattle.questions.proofs.KeptPoints.{kept_on_paper}
use Rattle.reached.specs.Legs.{Measured, LegsNearest}
use Rattle.reached.proofs.Stored.{history_stores}

-- ---- the default path

default_on_paper : (k : ℕ) → k < 4 → PointOnPaper (get_or default_path.points k no_path_point)
unfolding default_path path_of clamped_path tabulate clamped_path_point clamp_of lt le on_paper is_multiple of_bits
default_on_paper zero h = (tt, tt)
default_on_paper (suc zero) h = (tt, tt)
default_on_paper (suc (suc zero)) h = (tt, tt)
default_on_paper (suc (suc (suc zero))) h = (tt, tt)
default_on_paper (suc (suc (suc (suc k)))) h = let z : ⊥ = omega arith in absurd z

default_measured : Measured default_path
unfolding default_path path_of path_legs
default_measured = record { points_on_paper = default_on_paper; legs_nearest = legs_between default_path default_on_paper; times_are = refl }

-- ---- a path that is handed in

given_measured : (c : PathCodes) → PathAccepted true c → Measured (given_path c)
unfolding given_path path_of path_legs
given_measured c a =
    let on = kept_on_paper true c a in
    record { points_on_paper = on; legs_nearest = legs_between (given_path c) on; times_are = refl }

-- ---- a player

pub legs_nearest : LegsNearest
legs_nearest =
    history_stores (λ (s : Shape) (w : Path). Measured w) default_measured (λ s w c a m. m)
    (λ s w c a m. given_measured c a)
