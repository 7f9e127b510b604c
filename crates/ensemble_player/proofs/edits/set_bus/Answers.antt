-- `set_bus` meets its contract. Assumes nothing.
use Rattle.questions.proofs.Results.{passed_on}
use Rattle.ensemble_player.proofs.Sets.{bus_refused, bus_done}
use Rattle.ensemble_player.proofs.edits.set_bus.Goals as goal

pub returns-in_err-server : goal.returns-in_err-server
returns-in_err-server c =
    rw (passed_on _ c.from_residual.ensures) (bus_refused _ c.requires _ _ _ (rw c.server_of.ensures at c.in_err-server.ensures))

pub returns : goal.returns
returns c =
    rw c.paged.ensures (bus_done _ c.requires _ _ _ (rw c.server_of.ensures at c.in_ok-server.ensures))
