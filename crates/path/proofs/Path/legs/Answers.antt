-- `Path::legs` meets its contract. Assumes nothing.
use mathlib.Core.Path.{◌∙◌}
use native.Mathlib.Omega.{arith}
use Rattle.path.specs.Paths.{path_legs}
use Rattle.path.proofs.First.{legs_first}
use Rattle.path.proofs.Path.legs.Goals as goal

pub returns : goal.returns
unfolding path_legs
returns c = c.legs_of.ensures ∙ legs_first c.args.self.points c.args.self.len c.args.self.closed (omega arith)
