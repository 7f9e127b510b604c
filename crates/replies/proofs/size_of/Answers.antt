-- `size_of` meets its contract. Assumes nothing.
use mathlib.Core.Path.{ap, ◌∙◌}
use native.Mathlib.Numerals.{add-one}
use native.Mathlib.Omega.{arith}
use lib.ListN.{length, length-map}
use Rattle.number.specs.Encoded.{encoded}
use Rattle.replies.proofs.Laws.{counted_one, count_small, counted, number_at, none_left}
use Rattle.replies.proofs.size_of.Goals as goal

pub overflow_add-sum : goal.overflow_add-sum
overflow_add-sum g c =
    let here = number_at g.T.Written.number c.args.s.now c.loop-n.n-index c.n-item.result c.loop-n-test.true c.n-item.is in
    let size = c.size-sum.ensures ∙ ap (λ n. length (encoded n)) c.number.ensures in
    omega (arith, count_small c.loop-n.invariant here size, length-map c.args.s.now g.T.Written.number, c.requires)

pub loop-n-preserved : goal.loop-n-preserved
loop-n-preserved g c =
    let here = number_at g.T.Written.number c.args.s.now c.loop-n.n-index c.n-item.result c.loop-n-test.true c.n-item.is in
    let size = c.size-sum.ensures ∙ ap (λ n. length (encoded n)) c.number.ensures in
    rw add-one (counted_one c.loop-n.invariant here size)

pub returns : goal.returns
returns g c = counted c.loop-n.invariant (none_left g.T.Written.number c.args.s.now c.loop-n.n-index c.loop-n-test.false (omega arith))
