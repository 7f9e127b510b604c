-- `random::splitmix::mix` meets its contract: the larger of a number and 1 is that number, and 1 for 0. Assumes nothing.
use Rattle.std.proofs.Common.{◌≡◌, ◌<◌, ℕ, zero, suc, max, arith}
use Rattle.random.specs.Mix.{xor_shr, next_state, finalised, not_zero, mixed}
use Rattle.random.proofs.splitmix.mix.Goals as goal

max_one : (n r : ℕ) → r ≡ max n 1 → (r ≡ not_zero n) × (0 < r)
max_one zero r e = (e, omega arith)
max_one (suc n) r e = (omega arith, omega arith)

pub returns : goal.returns
unfolding mixed finalised next_state xor_shr
returns c = max_one _ _ c.max.ensures
