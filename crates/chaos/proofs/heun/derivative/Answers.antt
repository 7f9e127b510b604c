-- `chaos::heun::derivative` meets its contract: each arm is the field of its attractor, with the constants by their bit patterns.
-- Assumes nothing.
use mathlib.Core.Path.{sym, ap}
use lib.Ieee.{of_bits, round}
use Rattle.chaos.specs.Law.{lorenz_field, rossler_field, field_of}
use Rattle.chaos.specs.declared.law.Attractor.{Attractor}
use Rattle.chaos.proofs.heun.derivative.Goals as goal

pub returns-in-Lorenz : goal.returns-in-Lorenz
unfolding of_bits round lorenz_field
returns-in-Lorenz c = ap (λ (a : Attractor). field_of a c.args.s) (sym c.in-Lorenz.is)

pub returns-in-Rossler : goal.returns-in-Rossler
unfolding of_bits round rossler_field
returns-in-Rossler c = ap (λ (a : Attractor). field_of a c.args.s) (sym c.in-Rossler.is)
