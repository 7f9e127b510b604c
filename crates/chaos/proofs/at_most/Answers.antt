-- `chaos::at_most` meets its contract. Assumes nothing.
use mathlib.Core.Path.{sym, subst}
use lib.Dec.{T}
use Rattle.floatlaws.proofs.Extrema.{min_less}
use Rattle.chaos.proofs.Ends.{to_upper}
use Rattle.chaos.proofs.at_most.Goals as goal

pub returns-then-x-hi : goal.returns-then-x-hi
returns-then-x-hi c = min_less c.args.x c.args.hi c.if-x-hi.true

pub returns-else-x-hi : goal.returns-else-x-hi
returns-else-x-hi c =
    to_upper c.args.x c.args.hi (subst T (sym c.well_formed.0.1) tt) (subst T (sym c.well_formed.1.0.1) tt) c.requires c.if-x-hi.false
