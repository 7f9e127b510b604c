-- `write_lines` meets its contract: there is room, or there is none. Assumes nothing.
use Rattle.std.proofs.Common.{◌≡◌, sym, length}
use Rattle.text.specs.Lines.{lines, lines_size}
use Rattle.listlaws.proofs.Write.{written, not_written}
use Rattle.text.proofs.Steps.{lines_long}
use Rattle.text.proofs.write_lines.Goals as goal
use Rattle.text.proofs.write_lines.Goals.{Start}

-- the size that is asked for is that of the lines
counted : (c : Start) → let a = c.args in lines_size a.first (length a.x.now) ≡ length (lines a.first a.x.now a.y.now)
counted c = let a = c.args in sym (lines_long a.first a.x.now a.y.now (sym c.requires.0))

pub returns-then-lines_fit : goal.returns-then-lines_fit
returns-then-lines_fit c =
    let a = c.args in
    written a.out.now a.at (lines a.first a.x.now a.y.now) (counted (goal.at.returns-then-lines_fit c).Start) c.lines_fit.ensures c.if-lines_fit.true c.put_lines.ensures

pub returns-else-lines_fit : goal.returns-else-lines_fit
returns-else-lines_fit c =
    let a = c.args in
    not_written a.out.now a.at (lines a.first a.x.now a.y.now) (counted (goal.at.returns-else-lines_fit c).Start) c.lines_fit.ensures c.if-lines_fit.false
