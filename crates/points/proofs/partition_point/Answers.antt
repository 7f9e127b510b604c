-- `partition_point` meets its contract: the place after the one that was found. Assumes nothing.
use Rattle.std.proofs.Common.{ℕ, ◌≡◌, ◌<◌, false, true, length, sym, ◌∙◌, add-one, arith, rules}
use Rattle.std.specs.Prelude.{get_or}
use Rattle.std.specs.Float.{nan}
use Rattle.std.specs.Float.Ieee.{le}
use Rattle.points.proofs.Partition.{partition_found, partition_none}
use Rattle.points.proofs.partition_point.Goals as goal

pub returns-in-Some : goal.returns-in-Some
returns-in-Some c =
    let xs = c.args.xs.now in
    let i = c.in-Some.i in
    let inside : i < length xs = search rules in
    let here : le (get_or xs i nan) c.args.x ≡ true = search rules in
    let after : (k : ℕ) → i < k → k < length xs → le (get_or xs k nan) c.args.x ≡ false = search rules in
    (add-one i ∙ sym (partition_found xs c.args.x (length xs) i inside here after), omega arith)

pub returns-in-None : goal.returns-in-None
returns-in-None c =
    let xs = c.args.xs.now in
    let none : (k : ℕ) → k < length xs → le (get_or xs k nan) c.args.x ≡ false = search rules in
    (sym (partition_none xs c.args.x (length xs) none), omega arith)
