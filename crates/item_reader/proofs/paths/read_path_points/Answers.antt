-- `read_path_points` meets its contract. Assumes nothing.
use borrow.Author.Rules.{rules}
use Rattle.codes.specs.Blanks.{blank_path_point}
use Rattle.record.specs.Reading.{path_point}
use Rattle.item_reader.proofs.paths.read_path_points.Goals as goal

pub returns : goal.returns
returns c = c.read_row.ensures blank_path_point (λ l. path_point) c.args.s.now c.blank_path_points.ensures (λ before i r h. search rules)
