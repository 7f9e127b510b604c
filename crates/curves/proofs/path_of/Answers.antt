-- `path_of` meets its contract: what each call gave. Assumes nothing.
use mathlib.Core.Path.{◌∙◌}
use lib.ListN.{get_or}
use native.Mathlib.Omega.{arith}
use borrow.Author.Rules.{rules}
use Rattle.path.proofs.First.{path_first}
use Rattle.curves.specs.Given.{no_path_point_codes, path_point_of, given_path_points, given_path}
use Rattle.curves.proofs.path_of.Goals as goal

pub returns : goal.returns
unfolding given_path given_path_points
returns c =
    let given = c.filled-given.ensures (λ i. path_point_of (get_or c.args.c.points i no_path_point_codes)) (λ i r h e. search rules) in
    let path = c.new-2.ensures.0 ∙ rw (← c.kept-n.ensures) at (path_first c.filled-given.result c.args.c.count c.is_yes.result (omega arith)) in
    (rw (path, c.is_yes.ensures, given, c.new.ensures, c.kept-n.ensures), c.new-2.ensures.1)
