-- `smooth_in` meets its contract. Assumes nothing.
use Rattle.questions.proofs.Laws.{within}
use Rattle.questions.proofs.settings_tests.smooth_in.Goals as goal

pub returns : goal.returns
returns c = rw (c.if_chosen.ensures, within _ _ c.contains.ensures.value c.new.ensures.start c.new.ensures.end c.new.ensures.exhausted)
