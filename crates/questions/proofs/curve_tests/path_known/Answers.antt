-- `path_known` meets its contract. Assumes nothing.
use borrow.Author.Rules.{rules}
use Rattle.curves.specs.Given.{no_path_point_codes}
use Rattle.questions.specs.Tests.{path_point_known, path_known}
use Rattle.questions.proofs.curve_tests.path_known.Goals as goal

pub returns : goal.returns
unfolding path_known
returns c = rw (c.every_kept.ensures path_point_known no_path_point_codes (λ p r e. search rules))
