-- `point_finite` meets its contract. Assumes nothing.
use Rattle.questions.specs.Tests.{point_finite}
use Rattle.questions.proofs.curve_tests.point_finite.Goals as goal

pub returns : goal.returns
unfolding point_finite
returns c =
    rw (
      c.is_finite_f32.ensures,
      c.is_finite_f32-2.ensures,
      c.is_finite_f32-3.ensures,
      c.mod_finite.ensures,
      c.mod_finite-2.ensures,
    )
