-- `with_buses` meets its contract. Assumes nothing.
use Rattle.std.proofs.Common.{rules, length, ◌≡◌, ◌<◌, arith}
use Rattle.player.specs.Player.{state_of}
use Rattle.item_player.proofs.Buses.{bus_next, bus_last}
use Rattle.item_player.proofs.with_buses.Goals as goal
use Rattle.item_player.proofs.with_buses.Goals.{in-Ok, in-Err}

pub loop-k-preserved : goal.loop-k-preserved
loop-k-preserved c =
    let l = c.loop-k in
    let long : length c.args.buses ≡ 16 = search rules in
    let below : l.k < length c.args.buses = omega (arith, long) in
    elim c.match-set_bus.branch [
      | in-Ok w ↦ let b = rw w.in-Ok.is at c.set_bus.ensures in rw w.q-is (b.valid, bus_next c.args.buses l.k (state_of l.q) below l.invariant.1 b.state_is)
      | in-Err w ↦ let b = rw w.in-Err.is at c.set_bus.ensures in rw w.q-is (b.valid, bus_next c.args.buses l.k (state_of l.q) below l.invariant.1 b.state_is)
    ]

pub returns : goal.returns
returns c =
    let l = c.loop-k in
    let long : length c.args.buses ≡ 16 = search rules in
    (bus_last c.args.buses l.k (state_of l.q) (omega (arith, long, l.auto.k-end)) l.invariant.1, l.invariant.0)
