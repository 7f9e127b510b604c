-- When a One-shot has finished (document 02, W-204): "finished means that position has come to rest". Assumes nothing.
use Rattle.std.specs.Prelude.{Bool, false, not, ◌&&◌, Float, None, Option, Some}
use Rattle.std.specs.Float.Ieee.{le}
use Rattle.floatlaws.specs.Numbers.{f64_1, f64_2}
use Rattle.settings.specs.declared.choices.LfoType.{LfoType}
use Rattle.settings.specs.declared.choices.LfoType.TheVariants.{Drawn, Path, Lorenz, Rossler, SampleAndHold}
use Rattle.settings.specs.declared.choices.Mode.{Mode}
use Rattle.settings.specs.declared.choices.Mode.TheVariants.{Free, Restart, OneShot}
use Rattle.settings.specs.declared.choices.Direction.{Direction}
use Rattle.settings.specs.declared.choices.Direction.TheVariants.{Forward, Reverse, PingPong}
use Rattle.position.specs.Position.{loops}

-- there is a loopback point, and position loops from it
abbrev pub loops_back : Direction → Option Float → Bool
loops_back d None = false
loops_back d (Some l) = loops d l

-- "With l the modulated x of the loopback point of a Drawn curve, in force means 1 − l above 10^−9 going forward or ping-pong, and l above 10^−9 in reverse"
unfoldable pub loopback_in_force : LfoType → Direction → Option Float → Bool
loopback_in_force Drawn d l = loops_back d l
loopback_in_force Path d l = false
loopback_in_force Lorenz d l = false
loopback_in_force Rossler d l = false
loopback_in_force SampleAndHold d l = false

-- the count from which a position that does not loop stays where it is: ping-pong goes there and back
abbrev pub rest_from : Direction → Float
rest_from Forward = f64_1
rest_from Reverse = f64_1
rest_from PingPong = f64_2

-- "For a One-shot Drawn or Path ping-pong without a loopback in force that is at 2 cycles .. Every other case keeps the old meaning": 1 cycle
unfoldable pub finished_from : LfoType → Direction → Float
finished_from Drawn d = rest_from d
finished_from Path d = rest_from d
finished_from Lorenz d = f64_1
finished_from Rossler d = f64_1
finished_from SampleAndHold d = f64_1

-- by the swung cycle count c of a block's last frame, 0 where there is none; "with a loopback in force in any direction it never comes"
unfoldable pub finished_of : LfoType → Mode → Direction → Option Float → Float → Bool
finished_of kind Free d l c = false
finished_of kind Restart d l c = false
finished_of kind OneShot d l c = not (loopback_in_force kind d l) && le (finished_from kind d) c
