-- `CurveView::path_at` meets its contract: a search of the first n points finds what one of the curve does. Assumes nothing.
use Rattle.std.proofs.Common.{◌∙◌, arith}
use Rattle.std.proofs.lemmas.List.{length-take}
use Rattle.path_segments.proofs.First.{path_first}
use Rattle.voice.proofs.curve.CurveView.path_at.Goals as goal

pub returns : goal.returns
returns c = c.segment.ensures ∙ path_first _ _ _ _ _ _ _ (omega (arith, length-take c.args.self.n c.args.self.xs.now))
