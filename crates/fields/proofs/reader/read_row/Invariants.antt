-- `read_row` meets its contract. The loop's invariant: i values are read, and the rest of the array is blank. Assumes nothing.
use Prim.Native.Nat.{ℕ}
use mathlib.Core.Path.{◌≡◌}
use mathlib.Core.List.{List}
use lib.ListN.{length, replicate, take}
use Rattle.listlaws.specs.Tables.{padded}
use Rattle.fields.specs.Parser.{read, Parser, row}
use Rattle.fields.specs.Fields.{parsed}
use Rattle.fields.proofs.reader.read_row.Given as goal

abbrev pub invariant-loop-i : goal.invariant-loop-i
invariant-loop-i g l =
    (length l.values ≡ g.row.N)
    × ((b : _) (p : List _ → Parser _) (s : List ℕ) → l.fn.blank ≡ replicate g.row.N b
    → ((before : _) (i : ℕ) (r : _) → goal.F-post g l.read before i r → parsed r ≡ p before.now s i)
    → (row p l.i s l.at ≡ read (take l.i l.values) l.next) × (l.values ≡ padded g.row.N b (take l.i l.values)))
