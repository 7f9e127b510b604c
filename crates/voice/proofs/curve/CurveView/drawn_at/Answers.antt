-- `CurveView::drawn_at` meets its contract: a search of the first n points finds what one of the curve does. Assumes nothing.
use Rattle.std.proofs.Common.{◌∙◌, arith}
use Rattle.std.proofs.lemmas.List.{length-take}
use Rattle.shape_segments.proofs.First.{of_first}
use Rattle.voice.proofs.curve.CurveView.drawn_at.Goals as goal

pub returns : goal.returns
returns c = c.segment.ensures ∙ of_first _ _ _ _ _ _ (omega (arith, length-take c.args.self.n c.args.self.xs.now))
