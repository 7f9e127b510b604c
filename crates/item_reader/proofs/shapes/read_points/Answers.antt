-- `read_points` meets its contract. Assumes nothing.
use borrow.Author.Rules.{rules}
use Rattle.codes.specs.Blanks.{blank_point}
use Rattle.record.specs.Reading.{last_x, point}
use Rattle.item_reader.proofs.shapes.read_points.Goals as goal

pub returns : goal.returns
returns c = c.read_row.ensures blank_point (λ l. point (last_x l)) c.args.s.now c.blank_points.ensures (λ before i r h. search rules)
