-- The strengths of a player's drawn shape, for every player that calls have reached. Assumes nothing.
use Rattle.std.specs.Prelude.{ℕ, ◌^◌, ◌<◌, Bool, cond, get_or, Float}
use Rattle.std.specs.Float.{nan}
use Rattle.std.specs.Float.Ieee.Exact.{HasValue}
use Rattle.bend.specs.Strengths.{Near}
use Rattle.shape.specs.Points.{no_point}
use Rattle.slot.specs.Moved.{shape_lists}
use Rattle.player.specs.declared.Player.{Player}
use Rattle.reached.specs.Traces.{History}

-- a curve on the grid, n / 1024 or, where s, -n / 1024, and a strength that "differs from 2^(4 × curve) by less than one part in 2^23"
pub record Bends (curve strength : Float) : Type 0 where
  pub s : Bool
  pub n : ℕ
  pub curve_is : HasValue curve s n 1024
  pub near : Near (cond s 1 (2 ^ n)) (cond s (2 ^ n) 1) strength

-- of each point of the shape as it is stored, and of its strength in the lists that the frames read
abbrev pub StrengthsNear : Type 0
StrengthsNear =
    (p : Player) → History p → (k : ℕ) → k < p.page.shape.len
    → Bends (get_or p.page.shape.points k no_point).curve (get_or (shape_lists p.page.shape p.page.buses).es k nan)
