-- Worked cases of a loopback in force and of finished: one table, which the definitions meet by computation. Assumes nothing.
use Rattle.std.specs.Prelude.{ℕ, ◌-◌, ◌^◌, ◌≡◌, refl, Bool, true, false, List, [], ◌∷◌, map, Float, None, Option, Some}
use Rattle.std.specs.Float.{binary32}
use Rattle.std.specs.Float.Ieee.{of_bits, round, sub, lt, le}
use Rattle.floatlaws.specs.Numbers.{f64, f64_1, f64_2}
use Rattle.settings.specs.declared.choices.LfoType.{LfoType}
use Rattle.settings.specs.declared.choices.LfoType.TheVariants.{Drawn, Path, Lorenz, Rossler, SampleAndHold}
use Rattle.settings.specs.declared.choices.Mode.TheVariants.{OneShot}
use Rattle.settings.specs.declared.choices.Direction.{Direction}
use Rattle.settings.specs.declared.choices.Direction.TheVariants.{Forward, Reverse, PingPong}
use Rattle.position.specs.Rest.{loopback_in_force, finished_from, finished_of}

-- the type, the direction, the loopback; whether it is in force, and whether a One-shot has finished at the count just below 1, at 1, just below 2, and at 2
pub data Row : Type 0 where
  row : LfoType → Direction → Option Float → Bool → Bool → Bool → Bool → Bool → Row

-- a loopback point at the f32 of these bits: 0, the two beside 10^−9, a half, the one below 1, and 1
abbrev at : ℕ → Option Float
at n = Some (of_bits binary32 n)

unfoldable pub table : List Row
table =
    row Drawn Forward None false false true true true
    ∷ row Drawn Forward (at 0) true false false false false
    ∷ row Drawn Forward (at 0x3089_705f) true false false false false
    ∷ row Drawn Forward (at 0x3089_7060) true false false false false
    ∷ row Drawn Forward (at 0x3f7f_ffff) true false false false false
    ∷ row Drawn Forward (at 0x3f80_0000) false false true true true
    ∷ row Drawn Reverse None false false true true true
    ∷ row Drawn Reverse (at 0) false false true true true
    ∷ row Drawn Reverse (at 0x3089_705f) false false true true true
    ∷ row Drawn Reverse (at 0x3089_7060) true false false false false
    ∷ row Drawn Reverse (at 0x3f7f_ffff) true false false false false
    ∷ row Drawn Reverse (at 0x3f80_0000) true false false false false
    ∷ row Drawn PingPong None false false false false true
    ∷ row Drawn PingPong (at 0) true false false false false
    ∷ row Drawn PingPong (at 0x3089_705f) true false false false false
    ∷ row Drawn PingPong (at 0x3089_7060) true false false false false
    ∷ row Drawn PingPong (at 0x3f7f_ffff) true false false false false
    ∷ row Drawn PingPong (at 0x3f80_0000) false false false false true
    ∷ row Path Forward None false false true true true
    ∷ row Path Forward (at 0x3f00_0000) false false true true true
    ∷ row Path Reverse None false false true true true
    ∷ row Path Reverse (at 0x3f00_0000) false false true true true
    ∷ row Path PingPong None false false false false true
    ∷ row Path PingPong (at 0x3f00_0000) false false false false true
    ∷ row Lorenz Forward (at 0x3f00_0000) false false true true true
    ∷ row Lorenz Reverse (at 0x3f00_0000) false false true true true
    ∷ row Lorenz PingPong (at 0x3f00_0000) false false true true true
    ∷ row Rossler Forward (at 0x3f00_0000) false false true true true
    ∷ row Rossler Reverse (at 0x3f00_0000) false false true true true
    ∷ row Rossler PingPong (at 0x3f00_0000) false false true true true
    ∷ row SampleAndHold Forward (at 0x3f00_0000) false false true true true
    ∷ row SampleAndHold Reverse (at 0x3f00_0000) false false true true true
    ∷ row SampleAndHold PingPong (at 0x3f00_0000) false false true true true
    ∷ []

-- ---- what a row has, and what the definitions say of it

abbrev columns : Row → List Bool
columns (row kind d l force below1 at1 below2 at2) = force ∷ below1 ∷ at1 ∷ below2 ∷ at2 ∷ []

abbrev counts : List Float
counts = f64 (2 ^ 53 - 1) (2 ^ 53) ∷ f64_1 ∷ f64 (2 ^ 53 - 1) (2 ^ 52) ∷ f64_2 ∷ []

abbrev said : Row → List Bool
said (row kind d l force below1 at1 below2 at2) = loopback_in_force kind d l ∷ map (finished_of kind OneShot d l) counts

pub worked : map said table ≡ map columns table
unfolding table loopback_in_force finished_from finished_of round of_bits sub lt le
worked = refl
