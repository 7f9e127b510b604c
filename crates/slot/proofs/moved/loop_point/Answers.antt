-- `loop_point` meets its contract. Assumes nothing.
use Rattle.std.proofs.Common.{arith}
use Rattle.slot.specs.Moved.{loop_of}
use Rattle.slot.proofs.moved.loop_point.Goals as goal

pub offset_bounds-xs-i : goal.offset_bounds-xs-i
offset_bounds-xs-i c = omega (arith, rw c.in_ok-i-in-Drawn.was at c.requires)

pub bounds-xs-i : goal.bounds-xs-i
bounds-xs-i c = omega (arith, rw c.in_ok-i-in-Drawn.was at c.requires)

pub returns-in_err-i-in-Drawn : goal.returns-in_err-i-in-Drawn
unfolding loop_of
returns-in_err-i-in-Drawn c = rw (c.from_residual.ensures, c.in-Drawn.is, c.in_err-i-in-Drawn.was)

pub returns-in_ok-i-in-Drawn : goal.returns-in_ok-i-in-Drawn
unfolding loop_of
returns-in_ok-i-in-Drawn c = rw (c.in-Drawn.is, c.in_ok-i-in-Drawn.was, c.f32_to_f64_with_nan.ensures)

pub returns-in-Path : goal.returns-in-Path
unfolding loop_of
returns-in-Path c = rw c.in-Path.is

pub returns-in-Lorenz : goal.returns-in-Lorenz
unfolding loop_of
returns-in-Lorenz c = rw c.in-Lorenz.is

pub returns-in-Rossler : goal.returns-in-Rossler
unfolding loop_of
returns-in-Rossler c = rw c.in-Rossler.is

pub returns-in-SampleAndHold : goal.returns-in-SampleAndHold
unfolding loop_of
returns-in-SampleAndHold c = rw c.in-SampleAndHold.is
