-- `put_row` meets its contract. Assumes nothing.
use native.Mathlib.Omega.{arith}
use Rattle.item_writer.proofs.Laws.{row_none, row_more}
use Rattle.item_writer.proofs.numbers.put_row.Goals as goal

pub loop-x-init : goal.loop-x-init
loop-x-init g c = row_none g.T.Put.bytes c.args.row.now _ _ _

pub loop-x-preserved : goal.loop-x-preserved
loop-x-preserved g c =
    row_more g.T.Put.bytes c.args.row.now c.loop-x.x-index c.x-item.result c.loop-x-test.true c.x-item.is c.loop-x.invariant c.put-place.ensures (omega arith)
