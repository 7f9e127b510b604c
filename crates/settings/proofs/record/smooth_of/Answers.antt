-- `smooth_of` meets its contract: each code is a place of the list, and any other is past its end. Assumes nothing.
use Rattle.std.proofs.Common.{sym, arith}
use Rattle.std.proofs.lemmas.Option.{slice_get_past}
use Rattle.settings.specs.Codes.{smooths, smooth_at}
use Rattle.settings.proofs.record.smooth_of.Goals as goal

pub returns-in-0 : goal.returns-in-0
unfolding smooth_at
returns-in-0 c = rw c.in-0.is

pub returns-in-1 : goal.returns-in-1
unfolding smooth_at
returns-in-1 c = rw c.in-1.is

pub returns-in_default : goal.returns-in_default
unfolding smooth_at
returns-in_default c = sym (slice_get_past (smooths c.args.c) c.args.c.code (omega arith))
