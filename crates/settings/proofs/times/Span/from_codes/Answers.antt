-- `Span::from_codes` meets its contract. Assumes nothing.
use Rattle.std.proofs.Common.{arith}
use lib.ListN.{get_or-eq_default}
use Rattle.settings.specs.Times.{spans, span_at}
use Rattle.settings.proofs.times.Span.from_codes.Goals as goal

pub returns-in-0 : goal.returns-in-0
unfolding span_at
returns-in-0 c = rw c.in-0.is

pub returns-in-1 : goal.returns-in-1
unfolding span_at
returns-in-1 c = rw (c.in-1.is, c.synced_span.ensures, c.from_code.ensures)

pub returns-in-2 : goal.returns-in-2
unfolding span_at
returns-in-2 c = rw c.in-2.is

pub returns-in_default : goal.returns-in_default
unfolding span_at
returns-in_default c = let a = c.args.c in rw (get_or-eq_default (spans a) _ {n = a.code} (omega arith))
