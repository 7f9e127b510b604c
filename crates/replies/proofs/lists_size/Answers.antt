-- `lists_size` meets its contract. Assumes nothing.
use native.Mathlib.Omega.{arith}
use Rattle.std.proofs.lemmas.List.{map-id}
use Rattle.replies.specs.Replies.{bits_of}
use Rattle.replies.proofs.Laws.{bytes_length, bits_length, listed_length}
use Rattle.replies.proofs.lists_size.Goals as goal

pub overflow_add-result : goal.overflow_add-result
overflow_add-result c =
    let a = c.args in
    let s = rw map-id at c.size_of.ensures in
    omega (arith, s, bytes_length a.s.now, bytes_length (bits_of a.x.now), bits_length a.x.now)

pub overflow_add-result-2 : goal.overflow_add-result-2
overflow_add-result-2 c =
    let a = c.args in
    let s = rw map-id at c.size_of.ensures in
    let y = bytes_length (bits_of a.y.now) in
    omega (arith, s, bytes_length a.s.now, bytes_length (bits_of a.x.now), bits_length a.x.now, y, bits_length a.y.now)

pub returns : goal.returns
returns c =
    let a = c.args in
    let s = rw map-id at c.size_of.ensures in
    omega (arith, s, listed_length a.s.now a.x.now a.y.now)
