-- `put_all` meets its contract. Assumes nothing.
use native.Mathlib.Numerals.{add-one}
use native.Mathlib.Omega.{arith}
use Rattle.listlaws.proofs.Write.{put_room, put_one, put_all}
use Rattle.replies.proofs.Laws.{number_at, none_left, bytes_next, bytes_none}
use Rattle.replies.proofs.put_all.Goals as goal

pub put-place-requires : goal.put-place-requires
put-place-requires g c =
    let here = number_at g.T.Written.number c.args.s.now c.loop-n.n-index c.n-item.result c.loop-n-test.true c.n-item.is in
    rw c.number.ensures (put_room c.loop-n.invariant c.requires _ _ (bytes_next here))

pub loop-n-preserved : goal.loop-n-preserved
loop-n-preserved g c =
    let here = number_at g.T.Written.number c.args.s.now c.loop-n.n-index c.n-item.result c.loop-n-test.true c.n-item.is in
    rw add-one (put_one c.loop-n.invariant c.requires _ _ (bytes_next here) (rw c.number.ensures at c.put-place.ensures))

pub returns : goal.returns
returns g c = put_all c.loop-n.invariant c.requires (bytes_none (none_left g.T.Written.number c.args.s.now c.loop-n.n-index c.loop-n-test.false (omega arith)))
