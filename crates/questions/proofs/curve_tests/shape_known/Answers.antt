-- `shape_known` meets its contract. Assumes nothing.
use borrow.Author.Rules.{rules}
use Rattle.curves.specs.Given.{no_point_codes}
use Rattle.questions.specs.Tests.{point_known, shape_known}
use Rattle.questions.proofs.curve_tests.shape_known.Goals as goal

pub returns : goal.returns
unfolding shape_known
returns c = rw (c.every_kept.ensures point_known no_point_codes (λ p r e. search rules))
