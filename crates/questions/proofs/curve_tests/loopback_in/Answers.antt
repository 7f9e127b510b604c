-- `loopback_in` meets its contract. Assumes nothing.
use Rattle.questions.specs.Tests.{loopback_in}
use Rattle.questions.proofs.curve_tests.loopback_in.Goals as goal

pub returns : goal.returns
unfolding loopback_in
returns c = rw (c.loopback_below.ensures, c.kept.ensures)
