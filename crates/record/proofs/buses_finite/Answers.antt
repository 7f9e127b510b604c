-- `buses_finite` meets its contract: the chain tests each bus. Assumes nothing.
use Rattle.std.proofs.Common.{rules, ◌∙◌, sym, ap, length, arith}
use Rattle.std.proofs.Math.Seq.{take-length}
use Rattle.std.proofs.lemmas.Iterator.{YieldsList-from_slice}
use Rattle.std.proofs.lemmas.Iterator.Search.{all_from_yields_List}
use Rattle.std.specs.List.{list_all}
use lib.Ieee.{nan}
use lib.Ieee.Scale.{finite}
use Rattle.questions.proofs.Laws.{every_first}
use Rattle.record.proofs.buses_finite.Goals as goal

pub returns : goal.returns
returns c =
    let buses = c.args.buses in
    all_from_yields_List finite _ _ _ c.all.ensures.ran (YieldsList-from_slice buses c.iter.ensures.rest) (λ x b q k. search rules)
    ∙ (ap (list_all finite) (sym (take-length buses)) ∙ every_first finite nan buses (length buses) (omega arith))
