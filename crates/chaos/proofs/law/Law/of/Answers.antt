-- `chaos::law::Law::of` meets its contract: the compiler's constants are the decimals of specs/Law.antt, rounded. Assumes nothing.
use mathlib.Core.Path.{sym, ap}
use lib.Ieee.{of_bits, round, neg, div}
use Rattle.chaos.specs.Law.{LORENZ, ROSSLER, law_of}
use Rattle.chaos.proofs.law.Law.of.Goals as goal

pub returns-in-Lorenz : goal.returns-in-Lorenz
unfolding of_bits round neg div LORENZ
returns-in-Lorenz c = ap law_of (sym c.in-Lorenz.is)

pub returns-in-Rossler : goal.returns-in-Rossler
unfolding of_bits round neg div ROSSLER
returns-in-Rossler c = ap law_of (sym c.in-Rossler.is)
