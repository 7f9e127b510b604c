-- `bend::grid_index` meets its contract, by the laws of proofs/Grid.antt. Assumes nothing.
use Rattle.std.proofs.Common.{T, sym, subst, arith}
use lib.Ieee.{binary32, fits}
use Rattle.bend.specs.Grid.{clamped_curve}
use Rattle.bend.proofs.Grid.{Read, curve_read}
use Rattle.bend.proofs.grid_index.Goals as goal
use Rattle.bend.proofs.grid_index.Goals.{After-scaled-y, Start}

held : (c : Start) → T (fits binary32 c.args.curve)
held c = subst T (sym c.well_formed.0.1) tt

-- of 1024 times the clamped curve
of_curve : (c : After-scaled-y) → Read (clamped_curve c.args.curve) c.scaled-y.result
of_curve c = rw c.scaled-y.ensures (curve_read c.args.curve (held c.before))

pub overflow_add-result : goal.overflow_add-result
overflow_add-result c = let h = of_curve (goal.at.overflow_add-result c).After-scaled-y in omega (arith, c.f64_to_u64.ensures, h.1, h.2)

pub overflow_sub-result : goal.overflow_sub-result
overflow_sub-result c = let h = of_curve (goal.at.overflow_sub-result c).After-scaled-y in omega (arith, c.f64_to_u64-2.ensures, h.1, h.2)

pub returns : goal.returns
returns c =
    let h = of_curve (goal.at.returns c).After-scaled-y in
    (rw (c.f64_to_u64-2.ensures, c.f64_to_u64.ensures) h.3, omega (arith, c.f64_to_u64.ensures, h.1, h.2))
