-- `numbers_of` meets its contract. The loop's invariant: 0 and the first v are there. Assumes nothing.
use native.Mathlib.Numerals.{add-one}
use native.Mathlib.Omega.{arith}
use Rattle.ensemble_runner.proofs.block.numbers_of.Invariants.{filled_more}
use Rattle.ensemble_runner.proofs.block.numbers_of.Goals as goal

pub loop-v-preserved : goal.loop-v-preserved
loop-v-preserved c =
    rw add-one (filled_more _ c.requires c.loop-v.v _ _ (omega arith) c.flag.ensures c.loop-v.invariant)
