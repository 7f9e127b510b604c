-- `turns` meets its contract. The invariant: v voices have had their turn. Assumes nothing.
use Rattle.std.proofs.Common.{◌≡◌}
use Rattle.ensemble.proofs.Rounds.{list_after, woven_after}
use Rattle.ensemble.proofs.playing.turns.Given as goal

abbrev pub invariant-loop-v : goal.invariant-loop-v
invariant-loop-v l =
    record {
      voices_are : l.voices ≡ list_after l.p l.initial.voices l.v;
      x_is : l.x ≡ woven_after l.p l.initial.voices (λ f. f.x) l.initial.x l.v;
      y_is : l.y ≡ woven_after l.p l.initial.voices (λ f. f.y) l.initial.y l.v;
    }
