-- `filled` meets its contract. The loop's invariant: the first i are there. Assumes nothing.
use Rattle.std.proofs.Common.{◌≡◌, ℕ, ◌<◌}
use Rattle.listlaws.specs.Tables.{tabulate, padded}
use Rattle.points.proofs.filled.Given as goal

abbrev pub invariant-loop-i : goal.invariant-loop-i
invariant-loop-i g l =
    (f : ℕ → _) → ((i : ℕ) (r : _) → i < l.n → goal.F-post g l.at i r → r ≡ f i) → l.out ≡ padded 64 l.fn.rest (tabulate f l.i)
