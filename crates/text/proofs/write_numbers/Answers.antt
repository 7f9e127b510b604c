-- `write_numbers` meets its contract: there is room, or there is none. Assumes nothing.
use Prim.Native.Nat.{◌+◌}
use mathlib.Core.Path.{◌≡◌}
use native.Mathlib.Omega.{arith}
use borrow.Author.Rules.{rules}
use lib.ListN.{length}
use Rattle.text.specs.Lines.{numbers}
use Rattle.listlaws.proofs.Write.{written, not_written}
use Rattle.text.proofs.Decimal.{size_most}
use Rattle.text.proofs.Steps.{numbers_length}
use Rattle.text.proofs.write_numbers.Goals as goal
use Rattle.text.proofs.write_numbers.Goals.{After-more_size}

-- the size that is asked for is the line's
counted : (c : After-more_size) → let a = c.args in
    c.size.result + c.more_size.result ≡ length (numbers a.n a.s.now)
counted c = let a = c.args in
    rw (numbers_length a.n a.s.now, c.size.ensures, c.more_size.ensures.0)

pub overflow_add-size : goal.overflow_add-size
overflow_add-size c =
    omega (arith, c.size.ensures, size_most c.args.n (search rules), c.more_size.ensures, c.requires)

pub returns-then-fits : goal.returns-then-fits
returns-then-fits c =
    let a = c.args in
    written a.out.now a.at (numbers a.n a.s.now) (counted (goal.at.returns-then-fits c).After-more_size) c.fits.ensures c.if-fits.true c.put_numbers.ensures

pub returns-else-fits : goal.returns-else-fits
returns-else-fits c =
    let a = c.args in
    not_written a.out.now a.at (numbers a.n a.s.now) (counted (goal.at.returns-else-fits c).After-more_size) c.fits.ensures c.if-fits.false
