-- What holds of position and of finished. Proved in proofs/Resting.antt and proofs/InForce.antt; up to which count a loop is known not to rest is said in crate
-- reach. Assumes nothing.
use Rattle.std.specs.Prelude.{◌≡◌, false, not, ◌&&◌, cond, T, Float, None, Option, Some}
use Rattle.std.specs.Float.{binary32, binary64}
use Rattle.std.specs.Float.Ieee.{of_bits, lt, le, fits, is_nan}
use Rattle.std.specs.Float.Ieee.Scale.{finite}
use Rattle.floatlaws.specs.Numbers.{f64_0, f64_1}
use Rattle.floatlaws.specs.Whole.{InUnit}
use Rattle.settings.specs.declared.choices.LfoType.{LfoType}
use Rattle.settings.specs.declared.choices.LfoType.TheVariants.{Drawn, Path, Lorenz, Rossler, SampleAndHold}
use Rattle.settings.specs.declared.choices.Mode.{Mode}
use Rattle.settings.specs.declared.choices.Mode.TheVariants.{OneShot}
use Rattle.settings.specs.declared.choices.Direction.{Direction}
use Rattle.settings.specs.declared.choices.Direction.TheVariants.{Forward, Reverse, PingPong}
use Rattle.position.specs.Position.{looped, position_of}
use Rattle.position.specs.Rest.{loopback_in_force, finished_of}

-- ---- a loopback in force

-- a One-shot's position is the one without a loopback, but from a count of 1 on where the loopback is in force: there it loops
abbrev pub PositionLoops : Type 0
PositionLoops =
    (d : Direction) (c l : Float)
    → position_of OneShot d c (Some l) ≡ cond (le f64_1 c && loopback_in_force Drawn d (Some l)) (looped d c l) (position_of OneShot d c None)

-- the x of a loopback point is an f32 from 0 to 1: it is in force wherever it is below 1, and in reverse from the bits 3089_7060 (hexadecimal) on
pub record InForceOf (l : Float) : Type 0 where
  pub forward : loopback_in_force Drawn Forward (Some l) ≡ lt l f64_1
  pub reverse : loopback_in_force Drawn Reverse (Some l) ≡ le (of_bits binary32 0x3089_7060) l
  pub ping_pong : loopback_in_force Drawn PingPong (Some l) ≡ lt l f64_1

abbrev pub InForceLaw : Type 0
InForceLaw = (l : Float) → T (fits binary32 l) → InUnit l → InForceOf l

-- ---- finished, and at rest

-- at a count c position is not at rest: some greater count has another one
pub record Moves (m : Mode) (d : Direction) (l : Option Float) (c : Float) : Type 0 where
  pub later : Float
  pub is_f64 : T (fits binary64 later)
  pub is_finite : T (finite later)
  pub greater : T (lt c later)
  pub elsewhere : position_of m d later l ≡ position_of m d c l → ⊥

-- the types that read a position, and the loopback that they read it by
abbrev pub ReadsAt : LfoType → Option Float → Type 0
ReadsAt Drawn l = Unit
ReadsAt Path l = l ≡ None
ReadsAt Lorenz l = ⊥
ReadsAt Rossler l = ⊥
ReadsAt SampleAndHold l = ⊥

-- where position rests: at the end going forward, else at the start
abbrev pub rest_at : Direction → Float
rest_at Forward = f64_1
rest_at Reverse = f64_0
rest_at PingPong = f64_0

-- finished said: position is there at that count and at every greater one, +∞ included
abbrev pub FinishedRests : Type 0
FinishedRests =
    (kind : LfoType) (m : Mode) (d : Direction) (l : Option Float) (c : Float) → ReadsAt kind l → T (finished_of kind m d l c)
    → (later : Float) → T (le c later) → position_of m d later l ≡ rest_at d

-- not said of a One-shot, with no loopback in force: position moves on; c is an f64 and no NaN
abbrev pub UnfinishedMoves : Type 0
UnfinishedMoves =
    (kind : LfoType) (d : Direction) (l : Option Float) (c : Float) → ReadsAt kind l → loopback_in_force kind d l ≡ false → T (fits binary64 c) → T (not (is_nan c))
    → finished_of kind OneShot d l c ≡ false → Moves OneShot d l c
