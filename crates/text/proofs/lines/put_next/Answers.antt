-- `put_next` meets its contract: a blank, and the digits. Assumes nothing.
use native.Mathlib.Omega.{arith}
use Rattle.listlaws.proofs.Write.{puts_more}
use Rattle.text.proofs.lines.put_next.Goals as goal

pub returns : goal.returns
returns c =
    puts_more c.put_byte-a.ensures c.put_decimal.ensures (omega (arith, c.requires))
