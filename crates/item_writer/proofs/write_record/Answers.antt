-- `write_record` meets its contract. Assumes nothing.
use Prim.Native.Nat.{◌≤◌}
use native.Mathlib.Omega.{arith}
use lib.ListN.{length, take, length-take}
use Rattle.record.specs.Promises.{Typed}
use Rattle.item_writer.proofs.Types.{item_typed}
use Rattle.item_writer.proofs.Items.{not_asked_for, is_written}
use Rattle.item_writer.proofs.write_record.Goals as goal
use Rattle.item_writer.proofs.write_record.Goals.{After-put_item-n, Start}

typed : (c : Start) → Typed c.args.c
typed c = item_typed c.args.c _ c.well_formed.0

few_numbers : (c : After-put_item-n) → length (take c.put_item-n.result c.put_item-n.new.out) ≤ 1264
few_numbers c = simp length-take (omega (arith, c.put_item-n.ensures.1))

pub returns-in_err-item_answer : goal.returns-in_err-item_answer
returns-in_err-item_answer c = not_asked_for _ (typed (goal.at.returns-in_err-item_answer c).Start) _ _ c.in_err-item_answer.ensures _ c.from_residual.ensures.1

pub returns : goal.returns
returns c =
    rw c.ok_or.ensures.value
    (is_written c.args.c (typed (goal.at.returns c).Start) _ _ c.put_item-n.ensures.0 c.in_ok-item_answer.ensures (few_numbers (goal.at.returns c).After-put_item-n) c.write_numbers.ensures)
