-- `Path::new` meets its contract. Assumes nothing.
use mathlib.Core.Path.{◌∙◌}
use lib.ListN.{get_or}
use native.Mathlib.Omega.{arith}
use borrow.Author.Rules.{rules}
use Rattle.path_segments.proofs.First.{times_first}
use Rattle.path.specs.Paths.{no_path_point, clamped_path_point, clamped_path, path_of}
use Rattle.path.proofs.First.{legs_first}
use Rattle.path.proofs.Path.new.Goals as goal

pub returns : goal.returns
unfolding path_of clamped_path
returns c =
    let len = c.kept-len.result in
    let n = c.segment_count-n.result in
    let kept = c.filled-points.ensures (λ i. clamped_path_point (get_or c.args.points.now i no_path_point)) (λ i r h e. search rules) in
    let legs = c.legs_of.ensures ∙ legs_first c.filled-points.result len c.args.closed (omega arith) in
    let times = c.times-times.ensures ∙ times_first c.legs_of.result n (omega arith) in
    (rw (times, legs, c.segment_count-n.ensures.0, kept, c.new.ensures, c.kept-len.ensures), omega arith)
