-- `path_point_known` meets its contract. Assumes nothing.
use mathlib.Core.Path.{refl}
use Rattle.questions.specs.Tests.{path_point_known}
use Rattle.questions.proofs.curve_tests.path_point_known.Goals as goal

pub returns : goal.returns
unfolding path_point_known
returns c = refl
