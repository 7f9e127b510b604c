-- `put_numbers` meets its contract: the first number, and the others. Assumes nothing.
use native.Mathlib.Omega.{arith}
use Rattle.text.specs.Lines.{numbers}
use Rattle.listlaws.proofs.Write.{puts_more}
use Rattle.text.proofs.lines.put_numbers.Goals as goal

pub returns : goal.returns
unfolding numbers
returns c =
    puts_more c.put_decimal-a.ensures c.put_more.ensures (omega (arith, c.requires))
