-- `set_path` meets its contract. Assumes nothing.
use Rattle.questions.proofs.Results.{passed_on}
use Rattle.player.proofs.Sets.{path_refused, path_set}
use Rattle.player.proofs.edits.set_path.Goals as goal

pub returns-in_err-path_answer : goal.returns-in_err-path_answer
returns-in_err-path_answer c = rw (passed_on _ c.from_residual.ensures) (path_refused _ c.requires _ _ c.in_err-path_answer.ensures)

pub returns : goal.returns
returns c = path_set _ c.requires _ c.in_ok-path_answer.ensures _ c.path_of-path.ensures.0 _ c.of.ensures _ c.edited.ensures
