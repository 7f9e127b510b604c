-- `set_shape` meets its contract. Assumes nothing.
use Rattle.questions.proofs.Results.{passed_on}
use Rattle.ensemble_player.proofs.Sets.{shape_refused, shape_done}
use Rattle.ensemble_player.proofs.edits.set_shape.Goals as goal

pub returns-in_err-server : goal.returns-in_err-server
returns-in_err-server c =
    rw (passed_on _ c.from_residual.ensures) (shape_refused _ c.requires _ _ (rw c.server_of.ensures at c.in_err-server.ensures))

pub returns : goal.returns
returns c =
    rw c.paged.ensures (shape_done _ c.requires _ _ (rw c.server_of.ensures at c.in_ok-server.ensures))
