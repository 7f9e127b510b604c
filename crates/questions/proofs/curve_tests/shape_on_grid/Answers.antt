-- `shape_on_grid` meets its contract. Assumes nothing.
use borrow.Author.Rules.{rules}
use Rattle.curves.specs.Given.{no_point_codes}
use Rattle.questions.specs.Tests.{point_on_grid, shape_on_grid}
use Rattle.questions.proofs.curve_tests.shape_on_grid.Goals as goal

pub returns : goal.returns
unfolding shape_on_grid
returns c = rw (c.every_kept.ensures point_on_grid no_point_codes (λ p r e. search rules))
