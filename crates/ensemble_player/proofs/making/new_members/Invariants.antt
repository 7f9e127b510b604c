-- `new_members` meets its contract. The loop's invariant: the first v voices are there. Assumes nothing.
use Rattle.std.proofs.Common.{◌≡◌, ℕ, List, append-nil}
use Rattle.listlaws.specs.Tables.{tabulate, padded}
use Rattle.listlaws.proofs.Tabulation.{length_tabulate}
use Rattle.ensemble.specs.declared.Member.{Member}
use Rattle.ensemble_calls.specs.Ensembles.{seed_of}
use Rattle.ensemble_player.specs.Ensembles.{new_member}
use Rattle.ensemble_player.proofs.making.new_members.Given as goal

abbrev pub voices : ℕ → ℕ → List Member
voices seed v = tabulate (λ u. new_member (seed_of seed u)) v

pub full : (seed : ℕ) → padded 16 (new_member 0) (voices seed 16) ≡ voices seed 16
full seed = rw (length_tabulate (λ u. new_member (seed_of seed u)) 16) (append-nil (voices seed 16))

abbrev pub invariant-loop-v : goal.invariant-loop-v
invariant-loop-v l = l.m-items ≡ padded 16 (new_member 0) (voices l.seed l.v)
