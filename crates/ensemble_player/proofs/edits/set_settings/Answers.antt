-- `set_settings` meets its contract. Assumes nothing.
use Rattle.questions.proofs.Results.{passed_on}
use Rattle.ensemble_player.proofs.Sets.{not_passed, is_passed, unknown_shared, settings_refused, settings_done}
use Rattle.ensemble_player.proofs.edits.set_settings.Goals as goal

pub returns-in_err-ask : goal.returns-in_err-ask
returns-in_err-ask c =
    let (unknown, first) = not_passed _ c.in_err-ask.ensures in
    rw (passed_on _ c.from_residual.ensures, first) (unknown_shared _ c.requires _ _ unknown)

pub returns-in_err-server : goal.returns-in_err-server
returns-in_err-server c =
    rw (passed_on _ c.from_residual-in_err-server.ensures) (settings_refused _ c.requires _ _ (is_passed _ _ c.in_ok-ask.ensures) _ (rw c.server_of.ensures at c.in_err-server.ensures))

pub returns : goal.returns
returns c =
    rw c.paged.ensures (settings_done _ c.requires _ _ (is_passed _ _ c.in_ok-ask.ensures) _ (rw c.server_of.ensures at c.in_ok-server.ensures))
