-- What document 02 says of the legs that are returned, of the points as they were handed in. It is proved in proofs/LegsBetween.antt. Assumes nothing.
use Rattle.std.specs.Prelude.{ℕ, ◌+◌, ◌%◌, ◌<◌, min, ◌≡◌, get_or}
use Rattle.std.specs.Float.{nan}
use Rattle.leg.specs.Root.{LegBetween}
use Rattle.path_segments.specs.Times.{segments_of}
use Rattle.codes.specs.declared.PathPointCodes.{PathPointCodes}
use Rattle.codes.specs.declared.PathCodes.{PathCodes}
use Rattle.curves.specs.Given.{is_yes, no_path_point_codes}
use Rattle.evaluate.specs.Values.{LegsAnswer, evaluated_legs}

module _ (c : PathCodes) where
  abbrev at : ℕ → PathPointCodes
  at k = get_or c.points k no_path_point_codes

  -- "for each leg between the kept points, before any modulation, the f32 nearest to the root of the sum of squares": there is one for each segment, and after the last point comes the first
  pub record LegsBetween (r : LegsAnswer) : Type 0 where
    pub count_is : r.count ≡ segments_of (min c.count 64) (is_yes c.closed)
    pub each : (j : ℕ) → j < r.count
        → let k = (j + 1) % min c.count 64 in LegBetween (at j).x (at j).y (at k).x (at k).y (get_or r.lengths j nan)

-- of every path that is accepted
abbrev pub LegLaw : Type 0
LegLaw = (c : PathCodes) → (evaluated_legs c).answer ≡ 0 → LegsBetween c (evaluated_legs c)
