-- `is_odd` meets its contract. Assumes nothing.
use mathlib.Core.Path.{ap, ◌∙◌}
use Rattle.position.specs.Position.{is_odd, odd_cycle}
use Rattle.position.proofs.Parity.{lowest_bit}
use Rattle.position.proofs.place.is_odd.Goals as goal

pub returns : goal.returns
unfolding odd_cycle
returns c = lowest_bit c.f64_to_i64-k.result (record { sfits = c.f64_to_i64-k.type_inv }) ∙ ap is_odd c.f64_to_i64-k.ensures
