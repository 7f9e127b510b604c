-- Swing and position, each operation rounded once, as in `swung` and `position` of lfo/mod.rs. Assumes nothing.
use Rattle.std.specs.Prelude.{suc, ◌%◌, Bool, cond, eqb, ℤ, pos, negsuc, Float, None, Option, Some}
use Rattle.std.specs.Float.{binary64}
use Rattle.std.specs.Float.Ieee.{lt, to_signed}
use Rattle.floatlaws.specs.Extrema.{max_of}
use Rattle.floatlaws.specs.Whole.{whole_of, to_floor}
use Rattle.floatlaws.specs.Euclid.{rem_euclid}
use Rattle.floatlaws.specs.Rounded.{◌+₆₄◌, ◌-₆₄◌, ◌×₆₄◌, ◌÷₆₄◌}
use Rattle.floatlaws.specs.Numbers.{f64_0, f64_eps, f64_½, f64_1, f64_2}
use Rattle.settings.specs.declared.choices.Mode.{Mode}
use Rattle.settings.specs.declared.choices.Mode.TheVariants.{Free, Restart, OneShot}
use Rattle.settings.specs.declared.choices.Direction.{Direction}
use Rattle.settings.specs.declared.choices.Direction.TheVariants.{Forward, Reverse, PingPong}

abbrev pub floor_of : Float → Float
floor_of c = whole_of binary64 to_floor c

-- ---- swing

-- how far into its pair a count r is, when the first cycle takes a of the pair's two
unfoldable pub into_pair : Float → Float → Float
into_pair r a = cond (lt r a) (r ÷₆₄ a) (f64_1 +₆₄ (r -₆₄ a) ÷₆₄ (f64_2 -₆₄ a))

-- the pairs of cycles gone by, as cycles
abbrev pub pairs_of : Float → Float
pairs_of c = f64_2 ×₆₄ floor_of (c ×₆₄ f64_½)

unfoldable pub swung_of : Float → Float → Float
swung_of c first = pairs_of c +₆₄ into_pair (c -₆₄ pairs_of c) (f64_2 ×₆₄ first)

-- when there is swing
abbrev pub swung_by : Option Float → Float → Float
swung_by None c = c
swung_by (Some first) c = swung_of c first

-- ---- position, of a cycle after the other

abbrev pub is_odd : ℤ → Bool
is_odd (pos n) = eqb (n % 2) 1
is_odd (negsuc n) = eqb (suc n % 2) 1

-- the cycle's number as an i64 is odd
unfoldable pub odd_cycle : Float → Bool
odd_cycle cycle = is_odd (to_signed 63 cycle)

-- how far into its cycle a count is
abbrev pub into_cycle : Float → Float
into_cycle c = c -₆₄ floor_of c

unfoldable pub cyclic_of : Direction → Float → Float
cyclic_of Forward c = into_cycle c
cyclic_of Reverse c = f64_1 -₆₄ into_cycle c
cyclic_of PingPong c = cond (odd_cycle (floor_of c)) (f64_1 -₆₄ into_cycle c) (into_cycle c)

-- ---- a One-shot's loop, from a loopback point at l

-- how long it is: to the end, in reverse to the start
abbrev pub loop_length : Direction → Float → Float
loop_length Forward l = f64_1 -₆₄ l
loop_length Reverse l = l
loop_length PingPong l = f64_1 -₆₄ l

-- it is longer than 10^−9: only then position loops
abbrev pub loops : Direction → Float → Bool
loops d l = lt f64_eps (loop_length d l)

-- from the end to the loopback point and back: d into a bounce, each way w long
unfoldable pub bounced : Float → Float → Float → Float
bounced l w d = cond (lt d w) (f64_1 -₆₄ d) (l +₆₄ (d -₆₄ w))

-- where in it a count c from 1 on falls
abbrev pub looped : Direction → Float → Float → Float
looped Forward c l = l +₆₄ rem_euclid binary64 (c -₆₄ f64_1) (loop_length Forward l)
looped Reverse c l = l -₆₄ rem_euclid binary64 (c -₆₄ f64_1) (loop_length Reverse l)
looped PingPong c l = let w = loop_length PingPong l in bounced l w (rem_euclid binary64 (c -₆₄ f64_1) (f64_2 ×₆₄ w))

-- ---- position, of one cycle and a loop; c is 0 or more

-- from the loopback point to the end
unfoldable pub forward_loop : Float → Option Float → Float
forward_loop c None = f64_1
forward_loop c (Some l) = cond (loops Forward l) (looped Forward c l) f64_1

unfoldable pub forward_once : Float → Option Float → Float
forward_once c l = cond (lt c f64_1) c (forward_loop c l)

-- from the loopback point to the start
unfoldable pub reverse_loop : Float → Option Float → Float
reverse_loop c None = f64_0
reverse_loop c (Some l) = cond (loops Reverse l) (looped Reverse c l) f64_0

unfoldable pub reverse_once : Float → Option Float → Float
reverse_once c l = cond (lt c f64_1) (f64_1 -₆₄ c) (reverse_loop c l)

-- there and back
unfoldable pub back_once : Float → Float
back_once c = cond (lt c f64_2) (f64_2 -₆₄ c) f64_0

unfoldable pub ping_pong_loop : Float → Option Float → Float
ping_pong_loop c None = back_once c
ping_pong_loop c (Some l) = cond (loops PingPong l) (looped PingPong c l) (back_once c)

unfoldable pub ping_pong_once : Float → Option Float → Float
ping_pong_once c l = cond (lt c f64_1) c (ping_pong_loop c l)

abbrev pub once_of : Direction → Float → Option Float → Float
once_of Forward c l = forward_once c l
once_of Reverse c l = reverse_once c l
once_of PingPong c l = ping_pong_once c l

-- ---- position

abbrev pub position_of : Mode → Direction → Float → Option Float → Float
position_of Free d c l = cyclic_of d c
position_of Restart d c l = cyclic_of d c
position_of OneShot d c l = once_of d (max_of c f64_0) l
