-- `render_parts` meets its contract. The invariant says where the block stands; `one_more` is one turn. Assumes nothing.
use Rattle.voice.specs.Curve.{curve_of}
use Rattle.bank.proofs.Stages.{Stage}
use Rattle.bank.proofs.parts.render_parts.Given as goal

abbrev pub invariant-loop-left : goal.invariant-loop-left
invariant-loop-left l =
    Stage l.s (curve_of l.curve) l.block l.initial.r.voice l.initial.r.kept l.frames l.initial.end l.initial.left l.initial.x l.initial.y l.x l.y l.r.voice l.r.kept l.r.count l.from l.end l.left
