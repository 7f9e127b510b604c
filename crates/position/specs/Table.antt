-- The worked positions and swings of the paper: one table, and one theorem, proved in proofs/Worked.antt. Assumes nothing.
use Rattle.std.specs.Prelude.{ℕ, ◌^◌, ◌≡◌, true, false, List, [], ◌∷◌, Float, None, Option, Some}
use Rattle.std.specs.Float.{binary64}
use Rattle.std.specs.Float.Ieee.{round}
use Rattle.settings.specs.declared.choices.Mode.{Mode}
use Rattle.settings.specs.declared.choices.Mode.TheVariants.{Restart, OneShot}
use Rattle.settings.specs.declared.choices.Direction.{Direction}
use Rattle.settings.specs.declared.choices.Direction.TheVariants.{Forward, Reverse, PingPong}
use Rattle.position.specs.Position.{swung_of, position_of}

pub data Row : Type 0 where
  -- the mode, the direction, the count, the loopback; the position
  place : Mode → Direction → Float → Option Float → Float → Row
  -- the first cycle's share, the count; the swung count
  swing : Float → Float → Float → Row

-- n / 4, and -n / 4
abbrev fourths : ℕ → Float
fourths n = round binary64 false n 4

abbrev minus_fourths : ℕ → Float
minus_fourths n = round binary64 true n 4

-- -10 ^ -20
abbrev just_below : Float
just_below = round binary64 true 1 (10 ^ 20)

unfoldable pub table : List Row
table =
    place Restart Forward (minus_fourths 1) None (fourths 3)
    ∷ place Restart PingPong (minus_fourths 1) None (fourths 1)
    ∷ place Restart PingPong (fourths 5) None (fourths 3)
    ∷ place Restart Reverse (fourths 0) None (fourths 4)
    ∷ place OneShot Forward (fourths 7) (Some (fourths 2)) (fourths 3)
    ∷ place OneShot Forward (fourths 4) (Some (fourths 4)) (fourths 4)
    ∷ place OneShot Reverse (fourths 5) (Some (fourths 2)) (fourths 1)
    ∷ place OneShot PingPong (fourths 5) (Some (fourths 2)) (fourths 3)
    ∷ place OneShot PingPong (fourths 6) None (fourths 2)
    ∷ place OneShot PingPong (fourths 8) None (fourths 0)
    ∷ place Restart Forward just_below None (fourths 4)
    ∷ swing (fourths 3) (fourths 3) (fourths 2)
    ∷ swing (fourths 3) (fourths 6) (fourths 4)
    ∷ []

-- what a row says
abbrev pub Says : Row → Type 0
Says (place m d c l r) = position_of m d c l ≡ r
Says (swing first c r) = swung_of c first ≡ r

unfoldable pub Each : List Row → Type 0
Each [] = Unit
Each (r ∷ rows) = Says r × Each rows

-- "Proved, as rows of one table with one theorem"
abbrev pub TableRule : Type 0
TableRule = Each table
