-- `scatter` meets its contract. Assumes nothing.
use mathlib.Core.Path.{sym, ◌∙◌}
use Rattle.columns.proofs.Strides.{one_written, all_written}
use Rattle.columns.proofs.scatter.Goals as goal

pub loop-k-preserved : goal.loop-k-preserved
loop-k-preserved c = one_written _ _ _ _ _ _ c.loop-k-test.true ∙ c.loop-k.invariant

pub returns : goal.returns
returns c = sym (all_written _ _ _ _ _ c.loop-k-test.false) ∙ c.loop-k.invariant
