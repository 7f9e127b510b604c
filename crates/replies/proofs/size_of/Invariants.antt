-- `size_of` meets its contract: the bytes counted and those to come make all of them. Assumes nothing.
use mathlib.Core.List.{map}
use lib.ListN.{drop}
use Rattle.replies.proofs.Laws.{Counting}
use Rattle.replies.proofs.size_of.Given as goal

abbrev pub invariant-loop-n : goal.invariant-loop-n
invariant-loop-n g l = Counting (map g.T.Written.number l.s) l.sum (map g.T.Written.number (drop l.n-index l.s))
