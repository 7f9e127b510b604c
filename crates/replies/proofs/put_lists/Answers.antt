-- `put_lists` meets its contract: one list behind the other. Assumes nothing.
use Rattle.std.proofs.lemmas.List.{map-id}
use Rattle.replies.proofs.Laws.{room_first, room_second, room_third, put_lists}
use Rattle.replies.proofs.put_lists.Goals as goal

pub put_all-after-requires : goal.put_all-after-requires
put_all-after-requires c =
    let a = c.args in
    rw map-id (room_first a.out.now a.at a.s.now a.x.now a.y.now c.requires)

pub put_all-between-requires : goal.put_all-between-requires
put_all-between-requires c =
    let a = c.args in
    room_second a.out.now a.at a.s.now a.x.now a.y.now c.requires (rw map-id at c.put_all-after.ensures)

pub put_all-requires : goal.put_all-requires
put_all-requires c =
    let a = c.args in
    room_third a.out.now a.at a.s.now a.x.now a.y.now c.requires (rw map-id at c.put_all-after.ensures) c.put_all-between.ensures

pub returns : goal.returns
returns c =
    let a = c.args in
    put_lists a.out.now a.at a.s.now a.x.now a.y.now c.requires (rw map-id at c.put_all-after.ensures) c.put_all-between.ensures c.put_all.ensures
