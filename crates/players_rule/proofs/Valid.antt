-- Every call of a session gets a player that meets what its contract requires: making a player ensures it, and each call keeps it. Assumes nothing.
use Rattle.reached.proofs.Traces.{valid_all, valid_last, history_valid}
use Rattle.players_rule.specs.Rule.{Session, RequiresMet}

pub requires_met : (s : Session) → RequiresMet s
requires_met s =
    let before = history_valid s.history in
    record { before_block = before; at_block = valid_last s.history.trace before; after_block = valid_all s.from_block s.plays.valid }
