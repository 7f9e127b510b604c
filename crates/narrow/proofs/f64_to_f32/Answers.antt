-- `narrow::f64_to_f32` meets its contract, by the laws of proofs/Signs.antt.
-- Assumes nothing.
use Rattle.std.proofs.Common.{T, sym, subst}
use lib.Ieee.{binary64, fits}
use Rattle.narrow.proofs.Signs.{below, below_is, zero_fits, zero_same, none_of_these}
use Rattle.narrow.proofs.f64_to_f32.Goals as goal
use Rattle.narrow.proofs.f64_to_f32.Goals.{Start}

held : (c : Start) → T (fits binary64 c.args.x)
held c = subst T (sym c.well_formed.0.1) tt

pub size_to_f32-requires-then-x-2 : goal.size_to_f32-requires-then-x-2
size_to_f32-requires-then-x-2 c = below c.args.x c.if-x-2.true

pub float_to_float-result : goal.float_to_float-result
float_to_float-result c = zero_fits c.args.x (held (goal.at.float_to_float-result c).Start) c.if-x-3.true

pub returns-then-x-2 : goal.returns-then-x-2
returns-then-x-2 c = below_is c.args.x c.size_to_f32-then-x-2.result c.size_to_f32-then-x-2.ensures

pub returns-then-x-3 : goal.returns-then-x-3
returns-then-x-3 c = zero_same c.args.x (held (goal.at.returns-then-x-3 c).Start) c.if-x-3.true

pub returns-else-x-3 : goal.returns-else-x-3
returns-else-x-3 c = none_of_these c.args.x c.if-x.false c.if-x-2.false c.if-x-3.false
