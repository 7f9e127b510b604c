-- `player_of` meets its contract. Assumes nothing.
use mathlib.Core.Path.{ap, ◌∙◌}
use Rattle.calls.specs.Calls.{shape, path, step, after}
use Rattle.item_calls.specs.Calls.{bus_calls, item_calls}
use Rattle.item_player.proofs.player_of.Goals as goal

pub returns : goal.returns
unfolding after item_calls
returns c =
    let item = c.args.c in (
      c.with_buses.ensures.0
          ∙ ap (λ p. after p (bus_calls item.buses 0))
          (c.with_path-pathed.ensures.0 ∙ ap (λ p. step p (path item.path)) (c.with_shape-shaped.ensures.0 ∙ ap (λ p. step p (shape item.shape)) c.first_player-first.ensures.0)),
      c.with_buses.ensures.1,
    )
