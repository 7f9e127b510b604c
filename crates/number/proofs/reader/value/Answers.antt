-- `number::reader::value` meets its contract. The invariant: `sum` is the value of the bytes from `i` up to `end`. It fits, since that of
-- all bytes does. Assumes nothing.
use native.Mathlib.Omega.{arith}
use lib.Seq.{slice_empty}
use Rattle.number.specs.Read.{number_of}
use Rattle.number.proofs.reader.value.Invariants.{turn, fits}
use Rattle.number.proofs.reader.value.Goals as goal

pub loop-i-init : goal.loop-i-init
unfolding number_of
loop-i-init c = record { from = c.requires.0; within = omega arith; sum_is = rw (slice_empty c.args.end) }

pub overflow_mul-sum : goal.overflow_mul-sum
overflow_mul-sum c = let pre = c.requires in omega (arith, fits c.loop-i.invariant c.loop-i-test.true pre.1 pre.2)

pub overflow_add-sum : goal.overflow_add-sum
overflow_add-sum c = let pre = c.requires in
    omega (arith, c.from.ensures, fits c.loop-i.invariant c.loop-i-test.true pre.1 pre.2)

pub loop-i-preserved : goal.loop-i-preserved
loop-i-preserved c = record {
  from = omega arith;
  within = omega arith;
  sum_is = rw c.from.ensures (turn c.loop-i.invariant c.loop-i-test.true c.requires.1);
}
