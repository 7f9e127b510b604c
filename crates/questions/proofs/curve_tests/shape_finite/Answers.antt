-- `shape_finite` meets its contract. Assumes nothing.
use borrow.Author.Rules.{rules}
use Rattle.curves.specs.Given.{no_point_codes}
use Rattle.questions.specs.Tests.{point_finite, shape_finite}
use Rattle.questions.proofs.curve_tests.shape_finite.Goals as goal

pub returns : goal.returns
unfolding shape_finite
returns c = rw (c.every_kept.ensures point_finite no_point_codes (λ p r e. search rules))
