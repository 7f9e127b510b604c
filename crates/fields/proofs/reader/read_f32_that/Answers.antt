-- `read_f32_that` meets its contract. Assumes nothing.
use borrow.Author.Rules.{rules}
use Rattle.fields.specs.Parser.{after, ◌that◌}
use Rattle.fields.proofs.reader.read_f32_that.Goals as goal

pub returns-in_err-x : goal.returns-in_err-x
unfolding ◌that◌ after
returns-in_err-x g c = λ t h. search rules

pub returns-then-test : goal.returns-then-test
unfolding ◌that◌ after
returns-then-test g c = λ t h. rw (← c.in_ok-x.ensures, ← h _ _ c.test.ensures, c.if-test.true)

pub returns-else-test : goal.returns-else-test
unfolding ◌that◌ after
returns-else-test g c = λ t h. rw (← c.in_ok-x.ensures, ← h _ _ c.test.ensures, c.if-test.false)
