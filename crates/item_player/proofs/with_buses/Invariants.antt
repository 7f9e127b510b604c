-- `with_buses` meets its contract. Assumes nothing.
use mathlib.Core.Path.{◌≡◌}
use lib.ListN.{drop}
use Rattle.player.specs.Player.{state_of, Valid}
use Rattle.calls.specs.Calls.{after}
use Rattle.item_calls.specs.Calls.{bus_calls}
use Rattle.item_player.proofs.with_buses.Given as goal

abbrev pub invariant-loop-k : goal.invariant-loop-k
invariant-loop-k l = Valid l.q × (after (state_of l.initial.q) (bus_calls l.buses 0) ≡ after (state_of l.q) (bus_calls (drop l.k l.buses) l.k))
