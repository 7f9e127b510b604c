-- `every_kept` meets its contract: the chain tests each of the first points. Assumes nothing.
use Rattle.std.proofs.Common.{rules, ◌∙◌, take, arith}
use Rattle.std.proofs.lemmas.Iterator.{YieldsList-from_slice}
use Rattle.std.proofs.lemmas.Iterator.Search.{all_from_yields_List}
use Rattle.questions.specs.Tests.{every_kept}
use Rattle.questions.proofs.Laws.{every_first}
use Rattle.questions.proofs.curve_tests.every_kept.Goals as goal

pub returns : goal.returns
unfolding every_kept
returns g c t none h =
    let points = c.args.points.now in
    all_from_yields_List t _ _ _ c.all.ensures.ran (YieldsList-from_slice (take c.kept.result points) c.iter.ensures.rest) (λ x b q k. search (rules, h))
    ∙ rw (← c.kept.ensures) (every_first t none points c.kept.result (omega arith))
