-- `put_lines` meets its contract: the lines that are written and those to come make all of them. Assumes nothing.
use Prim.Native.Nat.{◌+◌}
use lib.ListN.{drop}
use Rattle.text.specs.Lines.{lines}
use Rattle.listlaws.proofs.Write.{Putting}
use Rattle.text.proofs.lines.put_lines.Given as goal

abbrev pub invariant-loop-k : goal.invariant-loop-k
invariant-loop-k l = Putting l.initial.out l.at (lines l.first l.x l.y) l.out l.place (lines (l.first + l.k) (drop l.k l.x) (drop l.k l.y))
