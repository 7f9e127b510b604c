-- `settings_finite` meets its contract. Assumes nothing.
use Rattle.questions.specs.Tests.{settings_finite}
use Rattle.questions.proofs.settings_tests.settings_finite.Goals as goal

pub returns : goal.returns
unfolding settings_finite
returns c =
    rw (
      c.rate_finite.ensures,
      c.span_finite.ensures,
      c.span_finite-2.ensures,
      c.smooth_finite.ensures,
      c.is_finite_f32.ensures,
    )
