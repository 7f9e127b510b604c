-- `put_all` meets its contract: what is written and what is to come make all of it. Assumes nothing.
use mathlib.Core.List.{map}
use lib.ListN.{drop}
use Rattle.listlaws.proofs.Write.{Putting}
use Rattle.replies.specs.Replies.{bytes_of}
use Rattle.replies.proofs.put_all.Given as goal

abbrev pub invariant-loop-n : goal.invariant-loop-n
invariant-loop-n g l = Putting l.initial.out l.at (bytes_of (map g.T.Written.number l.s)) l.out l.place (bytes_of (map g.T.Written.number (drop l.n-index l.s)))
