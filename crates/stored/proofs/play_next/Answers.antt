-- `play_next` meets its contract. Assumes nothing.
use Rattle.stored.proofs.Lines.{one_line, on_ok}
use Rattle.stored.proofs.play_next.Goals as goal

pub returns : goal.returns
returns g c = on_ok _ (one_line _ _ _ _) c.show.ensures
