-- `bend::on_grid` meets its contract, by the laws of proofs/Grid.antt. Assumes nothing.
use Rattle.std.proofs.Common.{T, sym, subst}
use lib.Ieee.{binary32, fits}
use Rattle.bend.proofs.Grid.{curve_read}
use Rattle.bend.proofs.on_grid.Goals as goal
use Rattle.bend.proofs.on_grid.Goals.{Start}

held : (c : Start) → T (fits binary32 c.args.curve)
held c = subst T (sym c.well_formed.0.1) tt

pub returns : goal.returns
returns c = rw (c.trunc.ensures, c.scaled-y.ensures) (curve_read c.args.curve (held (goal.at.returns c).Start)).0
