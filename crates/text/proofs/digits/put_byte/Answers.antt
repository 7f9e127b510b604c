-- `put_byte` meets its contract. Assumes nothing.
use mathlib.Core.Path.{refl}
use mathlib.Core.List.{[], ◌∷◌}
use native.Mathlib.Omega.{arith}
use Rattle.text.proofs.Over.{puts_sets}
use Rattle.text.proofs.digits.put_byte.Goals as goal

pub returns : goal.returns
returns c = puts_sets (_ ∷ []) (omega arith) refl refl
