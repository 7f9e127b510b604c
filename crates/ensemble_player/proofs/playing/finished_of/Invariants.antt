-- `finished_of` meets its contract. The loop's invariant: the first v are there. Assumes nothing.
use Rattle.std.proofs.Common.{◌≡◌, ℕ, Bool, false, List, get_or}
use Rattle.listlaws.specs.Tables.{tabulate, padded}
use Rattle.ensemble.specs.declared.Member.{Member}
use Rattle.ensemble.specs.Ensemble.{no_member}
use Rattle.ensemble_player.proofs.playing.finished_of.Given as goal

abbrev pub done : List Member → ℕ → List Bool
done voices v = tabulate (λ k. (get_or voices k no_member).finished) v

abbrev pub invariant-loop-v : goal.invariant-loop-v
invariant-loop-v l = l.out ≡ padded 16 false (done l.voices l.v)
