-- `set_shape` meets its contract. Assumes nothing.
use Rattle.questions.proofs.Results.{passed_on}
use Rattle.player.proofs.Sets.{shape_refused, shape_set}
use Rattle.player.proofs.edits.set_shape.Goals as goal

pub returns-in_err-shape_answer : goal.returns-in_err-shape_answer
returns-in_err-shape_answer c = rw (passed_on _ c.from_residual.ensures) (shape_refused _ c.requires _ _ c.in_err-shape_answer.ensures)

pub returns : goal.returns
returns c = shape_set _ c.requires _ c.in_ok-shape_answer.ensures _ c.shape_of-shape.ensures.0 _ c.of.ensures _ c.edited.ensures
