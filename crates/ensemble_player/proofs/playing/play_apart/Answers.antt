-- `play_apart` meets its contract. Assumes nothing.
use Rattle.std.proofs.Common.{arith}
use Rattle.ensemble_player.proofs.Apart.{count_small, within_life, members_ready, apart}
use Rattle.ensemble_player.proofs.playing.play_apart.Goals as goal

pub prepare-prepared-requires : goal.prepare-prepared-requires
prepare-prepared-requires c =
    count_small c.args.e c.args.t c.args.frames c.args.x.now c.args.y.now c.requires.0

pub play_members-members-requires : goal.play_members-members-requires
play_members-members-requires c =
    members_ready _ _ _ _ _ c.requires.0 _ c.prepare-prepared.ensures _ c.block_page-all.ensures

pub overflow_add-server : goal.overflow_add-server
overflow_add-server c =
    record { fits = omega (arith, within_life c.args.e c.args.t c.args.frames c.args.x.now c.args.y.now c.requires.0) }

pub returns : goal.returns
returns c =
    apart _ _ _ _ _ c.requires.0 _ c.prepare-prepared.ensures _ c.block_page-all.ensures c.requires.1 _ _ _ c.play_members-members.ensures
