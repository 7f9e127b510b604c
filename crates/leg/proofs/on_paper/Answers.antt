-- `leg::on_paper` meets its contract, by the laws of proofs/Coordinates.antt. Assumes nothing.
use Rattle.std.proofs.Common.{T, sym, subst}
use lib.Ieee.{binary32, fits}
use Rattle.leg.proofs.Coordinates.{paper_tested}
use Rattle.leg.proofs.on_paper.Goals as goal
use Rattle.leg.proofs.on_paper.Goals.{Start}

held : (c : Start) → T (fits binary32 c.args.c)
held c = subst T (sym c.well_formed.0.1) tt

pub returns : goal.returns
returns c = rw (c.trunc.ensures, c.f32_to_f64_with_nan-y.ensures) (paper_tested c.args.c (held (goal.at.returns c).Start))
