-- `transport_in` meets its contract. Assumes nothing.
use Rattle.questions.specs.Tests.{transport_in}
use Rattle.questions.proofs.Laws.{within}
use Rattle.questions.proofs.settings_tests.transport_in.Goals as goal

pub returns : goal.returns
unfolding transport_in
returns c =
    rw (
      within _ _ c.contains.ensures.value c.new.ensures.start c.new.ensures.end c.new.ensures.exhausted,
      within _ _ c.contains-2.ensures.value c.new-2.ensures.start c.new-2.ensures.end c.new-2.ensures.exhausted,
      within _ _ c.contains-3.ensures.value c.new-3.ensures.start c.new-3.ensures.end c.new-3.ensures.exhausted,
      within _ _ c.contains-4.ensures.value c.new-4.ensures.start c.new-4.ensures.end c.new-4.ensures.exhausted,
      within _ _ c.contains-5.ensures.value c.new-5.ensures.start c.new-5.ensures.end c.new-5.ensures.exhausted,
    )
