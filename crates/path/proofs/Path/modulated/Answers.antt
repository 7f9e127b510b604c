-- `Path::modulated` meets its contract: both arrays are filled with the coordinates as placed. Assumes nothing.
use borrow.Author.Rules.{rules}
use Rattle.path.specs.Paths.{path_x, path_y, modulated_path}
use Rattle.path.proofs.Path.modulated.Goals as goal

pub returns : goal.returns
unfolding modulated_path path_x path_y
returns c =
    rw (
      c.filled.ensures (path_x c.args.self.points c.args.buses.now) (λ i r h e. search rules),
      c.filled-2.ensures (path_y c.args.self.points c.args.buses.now) (λ i r h e. search rules),
    )
