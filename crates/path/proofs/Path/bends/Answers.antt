-- `Path::bends` meets its contract: the array is filled with what is read. Assumes nothing.
use lib.ListN.{get_or}
use borrow.Author.Rules.{rules}
use Rattle.path.specs.Paths.{no_path_point, bends_of}
use Rattle.path.proofs.Path.bends.Goals as goal

pub returns : goal.returns
unfolding bends_of
returns c = c.filled.ensures (λ i. (get_or c.args.self.points i no_path_point).bend) (λ i r h e. search rules)
