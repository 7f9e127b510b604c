-- `default_player` meets its contract. Assumes nothing.
use mathlib.Core.Path.{refl}
use Rattle.player.proofs.Makings.{default_valid}
use Rattle.player.proofs.making.default_player.Goals as goal

pub returns : goal.returns
returns c = rw (c.new_player.ensures, c.default.ensures) (record { player = refl; valid = default_valid _ })
