-- `number::writer::put` meets its contract. The invariant: the bytes of the rest, stored from `i` on, make what is to be written.
-- Assumes nothing.
use mathlib.Core.Path.{refl}
use Rattle.number.proofs.writer.put.Invariants.{turn, done, inside}
use Rattle.number.proofs.writer.put.Goals as goal

pub bounds-out-i : goal.bounds-out-i
bounds-out-i c = inside c.loop-rest.invariant c.requires

pub loop-rest-preserved : goal.loop-rest-preserved
loop-rest-preserved c = turn c.loop-rest.invariant c.loop-rest-test.true refl

pub bounds-out-i-2 : goal.bounds-out-i-2
bounds-out-i-2 c = inside c.loop-rest.invariant c.requires

pub returns : goal.returns
returns c = done c.loop-rest.invariant c.loop-rest-test.false refl c.requires
