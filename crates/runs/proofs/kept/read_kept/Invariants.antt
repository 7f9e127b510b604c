-- `read_kept` meets its contract. The loop's invariant: i values are read, and the array has the first 64 of them. Assumes nothing.
use Prim.Native.Nat.{ℕ}
use mathlib.Core.Path.{◌≡◌}
use mathlib.Core.List.{List}
use lib.ListN.{length, replicate}
use Rattle.fields.specs.Parser.{read, Parser}
use Rattle.fields.specs.Fields.{AnswersAs}
use Rattle.runs.specs.Curves.{kept}
use Rattle.runs.proofs.kept.read_kept.Given as goal

abbrev pub invariant-loop-i : goal.invariant-loop-i
invariant-loop-i g l =
    (length l.kept ≡ 64)
    × ((b : _) (p : Parser _) (run : List ℕ) → l.fn.blank ≡ replicate 64 b → AnswersAs (goal.F-post g l.read) p run → kept b p l.i run l.at ≡ read l.kept l.next)
