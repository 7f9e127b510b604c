-- `Rate::from_codes` meets its contract. Assumes nothing.
use Rattle.std.proofs.Common.{arith}
use lib.ListN.{get_or-eq_default}
use Rattle.settings.specs.Times.{rates, rate_at}
use Rattle.settings.proofs.times.Rate.from_codes.Goals as goal

pub returns-in-0 : goal.returns-in-0
unfolding rate_at
returns-in-0 c = rw (c.in-0.is, c.synced_rate.ensures, c.from_code-in-0.ensures, c.from_code.ensures)

pub returns-in-1 : goal.returns-in-1
unfolding rate_at
returns-in-1 c = rw (c.in-1.is, c.hz_rate.ensures, c.yes_no.ensures)

pub returns-in_default : goal.returns-in_default
unfolding rate_at
returns-in_default c = let a = c.args.c in rw (get_or-eq_default (rates a) _ {n = a.code} (omega arith))
