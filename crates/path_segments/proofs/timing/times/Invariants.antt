-- `times` meets its contract. The loop's invariant: the first j times are stored, and j legs are summed. Assumes nothing.
use Prim.Native.Nat.{ℕ}
use mathlib.Core.List.{List}
use lib.Ieee.{Float}
use mathlib.Core.Path.{◌≡◌}
use Rattle.floatlaws.specs.Numbers.{f32_0}
use Rattle.listlaws.specs.Tables.{tabulate, padded}
use Rattle.path_segments.specs.Times.{sum_to, share_of, time_at}
use Rattle.path_segments.proofs.timing.times.Given as goal

-- a time, as its calls give it
pub next_time : (legs : List Float) (n j : ℕ) (sum whole r : Float) → sum ≡ sum_to legs j → whole ≡ sum_to legs n → r ≡ share_of sum whole j n → r ≡ time_at legs n j
unfolding time_at
next_time legs n j sum whole r a b e = rw (e, b, a)

abbrev pub invariant-loop-j : goal.invariant-loop-j
invariant-loop-j l = (l.out ≡ padded 65 f32_0 (tabulate (time_at l.legs l.n) l.j)) × (l.sum ≡ sum_to l.legs l.j)
