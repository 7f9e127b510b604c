-- `spread` meets its contract. The loop's invariant: the first v columns are written. Assumes nothing.
use mathlib.Core.Path.{◌≡◌}
use lib.ListN.{length, replicate}
use lib.Ieee.{nan}
use Rattle.columns.proofs.Interleave.{woven}
use Rattle.columns.proofs.spread.Given as goal

abbrev pub invariant-loop-v : goal.invariant-loop-v
invariant-loop-v l = l.to ≡ woven nan l.stride (length l.from) (replicate l.v l.from) l.initial.to
