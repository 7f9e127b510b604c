-- `seed_of` meets its contract. Assumes nothing.
use Rattle.std.proofs.Common.{◌+◌, ◌*◌, ◌^◌}
use native.Mathlib.Nat.{add-mod-mod}
use Rattle.ensemble_calls.specs.Ensembles.{seed_of}
use Rattle.ensemble_player.proofs.making.seed_of.Goals as goal

pub returns : goal.returns
unfolding seed_of
returns c = add-mod-mod c.args.seed ((c.args.index + 1) * 0x9E3779B97F4A7C15) (2 ^ 64)
