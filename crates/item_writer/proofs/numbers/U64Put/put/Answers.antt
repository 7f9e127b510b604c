-- A number is put. Assumes nothing.
use native.Mathlib.Omega.{arith}
use Rattle.item_writer.proofs.Laws.{one}
use Rattle.item_writer.proofs.numbers.U64Put.put.Goals as goal

pub returns : goal.returns
returns c = one _ _ _ (omega arith)
