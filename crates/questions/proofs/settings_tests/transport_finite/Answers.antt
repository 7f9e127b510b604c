-- `transport_finite` meets its contract. Assumes nothing.
use Rattle.questions.specs.Tests.{transport_finite}
use Rattle.questions.proofs.settings_tests.transport_finite.Goals as goal

pub returns : goal.returns
unfolding transport_finite
returns c =
    rw (
      c.is_finite_f64.ensures,
      c.is_finite_f64-2.ensures,
      c.is_finite_f64-3.ensures,
      c.is_finite_f64-4.ensures,
      c.is_finite_f64-5.ensures,
      c.is_finite_f32.ensures,
      c.is_finite_f32-2.ensures,
    )
