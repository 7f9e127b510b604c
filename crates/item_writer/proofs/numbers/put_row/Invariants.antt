-- `put_row` meets its contract: so many parts are put. Assumes nothing.
use Prim.Native.Nat.{◌*◌}
use lib.ListN.{take}
use Rattle.fields.specs.Bytes.{row_bytes}
use Rattle.item_writer.specs.Numbers.{Adds}
use Rattle.item_writer.proofs.numbers.put_row.Given as goal

abbrev pub invariant-loop-x : goal.invariant-loop-x
invariant-loop-x g l = Adds l.initial.out l.at (row_bytes g.T.Put.bytes (take l.x-index l.row)) (g.T.Put.most * l.x-index) l.place l.out
