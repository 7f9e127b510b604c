-- `chaos::at_least` meets its contract. Assumes nothing.
use mathlib.Core.Path.{sym, subst}
use lib.Dec.{T}
use Rattle.floatlaws.proofs.Extrema.{max_more}
use Rattle.chaos.proofs.Ends.{to_lower}
use Rattle.chaos.proofs.at_least.Goals as goal

pub returns-then-x-lo : goal.returns-then-x-lo
returns-then-x-lo c = max_more c.args.x c.args.lo c.if-x-lo.true

pub returns-else-x-lo : goal.returns-else-x-lo
returns-else-x-lo c =
    to_lower c.args.x c.args.lo (subst T (sym c.well_formed.0.1) tt) (subst T (sym c.well_formed.1.0.1) tt) c.requires c.if-x-lo.false
