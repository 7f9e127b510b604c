-- `read_f32s` meets its contract. Assumes nothing.
use mathlib.Core.Path.{refl, ◌∙◌}
use borrow.Author.Rules.{rules}
use Rattle.floatlaws.specs.Numbers.{f32_0}
use Rattle.fields.specs.Fields.{f32}
use Rattle.fields.proofs.Loops.{row_full}
use Rattle.fields.proofs.reader.read_f32s.Goals as goal

pub returns : goal.returns
returns c = c.read_row.ensures f32_0 (λ l. f32) c.args.s.now refl (λ before i r h. search rules) ∙ row_full (λ l. f32) c.args.s.now f32_0 16 c.args.at
