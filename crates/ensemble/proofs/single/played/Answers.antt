-- `played` meets its contract. Assumes nothing.
use mathlib.Core.Path.{refl}
use Rattle.ensemble.proofs.Alone.{stretch_ready, plays}
use Rattle.ensemble.proofs.single.played.Goals as goal

pub render_parts-r-requires : goal.render_parts-r-requires
render_parts-r-requires c =
    stretch_ready _ _ _ _ _ c.requires _ _ refl refl _ c.void.ensures

pub returns : goal.returns
returns c =
    plays _ _ _ _ _ c.requires _ _ refl refl _ _ _ c.render_parts-r.ensures _ _ _ c.finished.ensures c.scatter.ensures c.scatter-2.ensures
