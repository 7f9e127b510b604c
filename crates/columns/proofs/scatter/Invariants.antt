-- `scatter` meets its contract. The invariant is about what is left to write. Assumes nothing.
use mathlib.Core.Path.{◌≡◌}
use Prim.Native.Nat.{◌+◌, ◌*◌}
use lib.ListN.{drop}
use Rattle.columns.specs.Columns.{strided}
use Rattle.columns.proofs.scatter.Given as goal

abbrev pub invariant-loop-k : goal.invariant-loop-k
invariant-loop-k l = strided l.stride (l.v + l.k * l.stride) (drop l.k l.from) l.to ≡ strided l.stride l.v l.from l.initial.to
