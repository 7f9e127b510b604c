-- `begin_stretch` meets its contract. Assumes nothing.
use Rattle.bank.proofs.Blocks.{begun_stretch}
use Rattle.bank.proofs.parts.begin_stretch.Goals as goal

pub render-requires : goal.render-requires
render-requires c = begun_stretch _ _ _ c.begin.result c.begin.ensures c.requires
