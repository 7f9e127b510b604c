-- `calls_from` meets its contract: what is written and what is to come make the output. Assumes nothing.
use mathlib.Core.Path.{refl}
use native.Mathlib.Nat.{sub-zero}
use native.Mathlib.Omega.{arith}
use Rattle.run_calls.proofs.Turning.{goes_first, goes_ended, goes_past, goes_end, goes_on, one_less}
use Rattle.run_calls.proofs.calls_from.Goals as goal

pub loop-init : goal.loop-init
loop-init g c =
    let m = g.C.CallsInPlace in
    (omega arith, rw sub-zero (goes_first m.calling m.state_of m.Valid c.args.run.now c.args.out.now c.args.place c.args.next c.requires.0 c.requires.1))

pub returns-then-run-next : goal.returns-then-run-next
returns-then-run-next g c =
    let m = g.C.CallsInPlace in
    goes_past m.calling m.state_of m.Valid c.loop.invariant.1 _ refl c.if-run-next.true

pub loop-preserved : goal.loop-preserved
loop-preserved g c =
    let m = g.C.CallsInPlace in
    (omega arith, rw c.in-On.is at (goes_on m.calling m.state_of m.Valid _ refl (rw (one_less _ _ c.loop-test.true) at c.loop.invariant.1) (omega arith) c.one_call.ensures))

pub returns-in-Ended : goal.returns-in-Ended
returns-in-Ended g c =
    let m = g.C.CallsInPlace in
    goes_ended m.calling m.state_of m.Valid
    (rw c.in-Ended.is at (goes_on m.calling m.state_of m.Valid _ refl (rw (one_less _ _ c.loop-test.true) at c.loop.invariant.1) (omega arith) c.one_call.ensures)) refl

pub returns : goal.returns
returns g c = let m = g.C.CallsInPlace in goes_end m.calling m.state_of m.Valid c.loop.invariant.1 (omega arith)
