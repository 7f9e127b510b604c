-- `path_on_paper` meets its contract. Assumes nothing.
use borrow.Author.Rules.{rules}
use Rattle.curves.specs.Given.{no_path_point_codes}
use Rattle.questions.specs.Tests.{path_point_on_paper, path_on_paper}
use Rattle.questions.proofs.curve_tests.path_on_paper.Goals as goal

pub returns : goal.returns
unfolding path_on_paper
returns c = rw (c.every_kept.ensures path_point_on_paper no_path_point_codes (λ p r e. search rules))
