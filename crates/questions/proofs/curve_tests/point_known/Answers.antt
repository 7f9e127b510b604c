-- `point_known` meets its contract. Assumes nothing.
use mathlib.Core.Path.{refl}
use Rattle.questions.specs.Tests.{point_known}
use Rattle.questions.proofs.curve_tests.point_known.Goals as goal

pub returns : goal.returns
unfolding point_known
returns c = refl
