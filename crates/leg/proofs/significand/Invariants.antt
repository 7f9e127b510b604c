-- `leg::significand` meets its contract: what it looks for stays among the `width` numbers from `lo` on. Assumes nothing.
use Rattle.std.proofs.Common.{ℕ, ◌+◌, ◌-◌, ◌*◌, ◌/◌, ◌<◌, ◌≤◌, lt_of_lt_of_le, arith}
use Rattle.leg.specs.Paper.{◌²}
use Rattle.leg.proofs.Halves.{sq_le}
use Rattle.leg.proofs.significand.Given as goal

abbrev pub Among : ℕ → ℕ → ℕ → Type 0
Among y lo width = (8388608 ≤ lo) × (1 ≤ width) × (lo + width ≤ 16777217) × ((2 * lo - 1) ² ≤ y) × (y < (2 * (lo + width) - 1) ²)

module _ (y lo width : ℕ) (more : 1 < width) (at : Among y lo width) where
  pub upper : (2 * (lo + width / 2) - 1) ² ≤ y → Among y (lo + width / 2) (width - width / 2)
  upper h = (omega arith, omega arith, omega arith, h, lt_of_lt_of_le at.4 (sq_le (omega arith)))

  pub lower : y < (2 * (lo + width / 2) - 1) ² → Among y lo (width - width / 2)
  lower h = (omega arith, omega arith, omega arith, at.3, lt_of_lt_of_le h (sq_le (omega arith)))

abbrev pub invariant-loop-width : goal.invariant-loop-width
invariant-loop-width l = Among l.y l.lo l.width

abbrev pub decreases-loop-width : goal.decreases-loop-width
decreases-loop-width l = l.width
