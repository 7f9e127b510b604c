-- `turn` meets its contract. Assumes nothing.
use native.Mathlib.Omega.{arith}
use Rattle.sittings.specs.Windows.{turn}
use Rattle.std.specs.Prelude.{None}
use Rattle.turns.specs.declared.Sitting.TheVariants as Sitting
use Rattle.turns.proofs.One.{turn_goes}
use Rattle.turns.proofs.steps.turn.Goals as goal

pub returns-in-NoMore : goal.returns-in-NoMore
unfolding turn
returns-in-NoMore c =
    rw c.in-NoMore.is (turn_goes c.requires.0.room Sitting.NoMore None (omega arith) tt _ c.go.ensures)
