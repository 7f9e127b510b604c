-- `shape_of` meets its contract: what each call gave. Assumes nothing.
use mathlib.Core.Path.{◌∙◌}
use lib.ListN.{get_or}
use native.Mathlib.Omega.{arith}
use borrow.Author.Rules.{rules}
use Rattle.shape.proofs.Slots.{shape_first}
use Rattle.curves.specs.Given.{no_point_codes, point_of, given_points, given_shape}
use Rattle.curves.proofs.shape_of.Goals as goal

pub returns : goal.returns
unfolding given_shape given_points
returns c =
    let given = c.filled-given.ensures (λ i. point_of (get_or c.args.c.points i no_point_codes)) (λ i r h e. search rules) in
    let shape = c.new-2.ensures.0 ∙ rw (← c.kept-n.ensures) at (shape_first c.filled-given.result c.args.c.count (omega arith)).0 in
    (rw (c.set_loopback.ensures.0, shape, c.loopback_of.ensures, given, c.new.ensures, c.kept-n.ensures), omega arith)
