-- `play_shared` meets its contract. Assumes nothing.
use Rattle.std.proofs.Common.{sym, refl, length-take-le}
use Rattle.ensemble_player.proofs.Serving.{serves, room_xs, room_ys, fits_x, fits_y, served}
use Rattle.ensemble_player.proofs.playing.play_shared.Goals as goal

pub unwrap-r-requires : goal.unwrap-r-requires
unwrap-r-requires c =
    serves _ _ _ _ _ c.requires.0 _ _ _ refl refl c.restart_codes-restart.ensures _ _ _ (rw c.server_of.ensures at c.play.ensures)

pub slice_bounds-xs-end : goal.slice_bounds-xs-end
slice_bounds-xs-end c = room_xs _ _ _ _ _ c.requires.0 _ _ _ refl refl c.restart_codes-restart.ensures _ _ _ (rw (c.server_of.ensures, c.unwrap-r.ensures) at c.play.ensures)

pub slice_bounds-spread-end : goal.slice_bounds-spread-end
slice_bounds-spread-end c = sym (length-take-le _ _ (room_xs _ _ _ _ _ c.requires.0 _ _ _ refl refl c.restart_codes-restart.ensures _ _ _ (rw (c.server_of.ensures, c.unwrap-r.ensures) at c.play.ensures)))

pub spread-requires : goal.spread-requires
spread-requires c =
    fits_x _ _ _ _ _ c.requires.0 _ _ _ refl refl c.restart_codes-restart.ensures _ _ _ (rw (c.server_of.ensures, c.unwrap-r.ensures) at c.play.ensures) _ refl

pub slice_bounds-ys-end : goal.slice_bounds-ys-end
slice_bounds-ys-end c = room_ys _ _ _ _ _ c.requires.0 _ _ _ refl refl c.restart_codes-restart.ensures _ _ _ (rw (c.server_of.ensures, c.unwrap-r.ensures) at c.play.ensures)

pub slice_bounds-spread-end-2 : goal.slice_bounds-spread-end-2
slice_bounds-spread-end-2 c = sym (length-take-le _ _ (room_ys _ _ _ _ _ c.requires.0 _ _ _ refl refl c.restart_codes-restart.ensures _ _ _ (rw (c.server_of.ensures, c.unwrap-r.ensures) at c.play.ensures)))

pub spread-requires-2 : goal.spread-requires-2
spread-requires-2 c =
    fits_y _ _ _ _ _ c.requires.0 _ _ _ refl refl c.restart_codes-restart.ensures _ _ _ (rw (c.server_of.ensures, c.unwrap-r.ensures) at c.play.ensures) _ refl

pub returns : goal.returns
returns c =
    λ t known.
    served _ _ _ _ _ c.requires.0 _ _ _ refl refl c.restart_codes-restart.ensures _ _ _ (rw (c.server_of.ensures, c.unwrap-r.ensures) at c.play.ensures) c.requires.1 _ c.idle_members-members.ensures _ _
    c.spread.ensures c.spread-2.ensures t known
