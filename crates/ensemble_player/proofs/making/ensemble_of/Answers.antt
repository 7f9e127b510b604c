-- `ensemble_of` meets its contract. Assumes nothing.
use Rattle.ensemble_player.proofs.Makings.{made_state, made_valid}
use Rattle.ensemble_player.proofs.making.ensemble_of.Goals as goal

pub returns-clause-state : goal.returns-clause-state
returns-clause-state c =
    made_state _ _ _ _ _ _ _ _ c.seed_of-server_seed.ensures c.server_for-server.ensures.state c.server_for-server.ensures.valid c.new_members.ensures c.count_for.ensures

pub returns-clause-valid : goal.returns-clause-valid
returns-clause-valid c =
    made_valid _ _ _ _ _ _ _ _ c.seed_of-server_seed.ensures c.server_for-server.ensures.state c.server_for-server.ensures.valid c.new_members.ensures c.count_for.ensures
