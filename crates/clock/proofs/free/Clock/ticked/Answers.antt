-- `Clock::ticked` meets its contract. Assumes nothing.
use Rattle.std.proofs.Common.{ap, arith}
use Rattle.clock.specs.Free.{ticked_of}
use Rattle.clock.specs.declared.free.Clock.{Clock}
use Rattle.clock.proofs.Counts.{anchored_count}
use Rattle.clock.proofs.free.Clock.ticked.Goals as goal

pub overflow_add-n : goal.overflow_add-n
overflow_add-n c = omega (arith, ap (λ (k : Clock). k.n) c.anchored-a.ensures, anchored_count c.args.self c.args.inc)

pub returns-in-None : goal.returns-in-None
unfolding ticked_of
returns-in-None c = rw (c.nearest_u64_to_f64.ensures, c.anchored-a.ensures, c.in-None.is)

pub returns-in-Beats : goal.returns-in-Beats
unfolding ticked_of
returns-in-Beats c = rw (c.followed.ensures, c.nearest_u64_to_f64-in-Beats.ensures, c.in-Some.is, c.in-Beats.is)

pub returns-in-Seconds : goal.returns-in-Seconds
unfolding ticked_of
returns-in-Seconds c = rw (c.followed-in-Seconds.ensures, c.nearest_u64_to_f64-in-Seconds.ensures, c.in-Some.is, c.in-Seconds.is)
