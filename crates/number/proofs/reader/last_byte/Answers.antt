-- `number::reader::last_byte` meets its contract. The invariant: the place that is looked for is the same from `i` on as from `at` on.
-- Assumes nothing.
use mathlib.Core.Path.{◌∙◌}
use native.Mathlib.Omega.{arith}
use Rattle.number.proofs.reader.last_byte.Invariants.{here, further}
use Rattle.number.proofs.reader.last_byte.Goals as goal

pub returns-then-s-i-lt128 : goal.returns-then-s-i-lt128
returns-then-s-i-lt128 c = (here _ _ c.loop-i-test.true c.if-s-i-lt128.true ∙ c.loop-i.invariant, omega arith)

pub loop-i-preserved : goal.loop-i-preserved
loop-i-preserved c = further _ _ c.loop-i-test.true c.if-s-i-lt128.false ∙ c.loop-i.invariant
