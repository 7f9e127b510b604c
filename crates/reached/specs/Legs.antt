-- The path of a player, for every player that calls have reached: where its points are, its legs and its times. Assumes nothing.
use Rattle.std.specs.Prelude.{ℕ, ◌+◌, ◌%◌, ◌<◌, ◌≡◌, get_or}
use Rattle.std.specs.Float.{nan}
use Rattle.leg.specs.Root.{LegBetween}
use Rattle.path_segments.specs.Times.{segments_of, times_of}
use Rattle.path.specs.declared.Path.{Path}
use Rattle.path.specs.Paths.{no_path_point, PointOnPaper, path_legs}
use Rattle.player.specs.declared.Player.{Player}
use Rattle.reached.specs.Traces.{History}

pub record Measured (path : Path) : Type 0 where
  -- "a multiple of 1/4096 within 0 to 1"
  pub points_on_paper : (k : ℕ) → k < path.len → PointOnPaper (get_or path.points k no_path_point)
  -- "the f32 nearest to the root of the sum of squares", from each point to the next, and of a closed path from the last to the first
  pub legs_nearest : (j : ℕ) → j < segments_of path.len path.closed
      → let a = get_or path.points j no_path_point in
      let b = get_or path.points ((j + 1) % path.len) no_path_point in
      LegBetween a.x a.y b.x b.y (get_or (path_legs path) j nan)
  pub times_are : path.times ≡ times_of (path_legs path) (segments_of path.len path.closed)

-- of the path as it is stored
abbrev pub LegsNearest : Type 0
LegsNearest = (p : Player) → History p → Measured p.page.path
