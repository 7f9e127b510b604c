-- `is_finite_f32` meets its contract. Assumes nothing.
use mathlib.Core.Path.{◌∙◌}
use Rattle.questions.proofs.Laws.{finite_is}
use Rattle.questions.proofs.floats.is_finite_f32.Goals as goal

pub returns : goal.returns
returns c = c.is_finite.ensures.value ∙ finite_is c.args.x
