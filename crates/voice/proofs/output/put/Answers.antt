-- `put` meets its contract. Assumes nothing.
use Rattle.voice.specs.Output.{gain_of, post_of, posted}
use Rattle.voice.proofs.Outputs.{second_by}
use Rattle.voice.proofs.output.put.Goals as goal

pub returns : goal.returns
unfolding post_of posted
returns c =
    let o = c.args.o in
    simp (c.later.ensures, c.second_value.ensures, c.second-after_y.ensures, c.post-after_x.ensures, c.faded-level.ensures.0, c.faded-level.ensures.1, c.captured-from_y.ensures, c.captured-from_x.ensures, c.gain-g.ensures, ← second_by c.args.kind c.args.smooth (gain_of o.t o.delay o.fade o.inv_fade) o.capture c.args.y o.y)
