-- `spread` meets its contract. The loop's invariant: the first v columns are written. Assumes nothing.
use mathlib.Core.Path.{◌≡◌, sym, ap, ◌∙◌}
use native.Mathlib.Omega.{arith}
use lib.ListN.{length, replicate}
use lib.Ieee.{nan}
use Rattle.columns.specs.Columns.{strided}
use Rattle.columns.proofs.Interleave.{woven}
use Rattle.columns.proofs.Serving.{served_none, served_more, served_all}
use Rattle.columns.proofs.spread.Goals as goal

pub loop-v-init : goal.loop-v-init
loop-v-init c = sym (served_none _ _ _ c.requires)

pub loop-v-preserved : goal.loop-v-preserved
loop-v-preserved c =
    let a = c.args in
    c.scatter.ensures
    ∙ ap (strided a.stride c.loop-v.v a.from.now) c.loop-v.invariant
    ∙ served_more _ _ _ c.requires _ c.loop-v-test.true

pub returns : goal.returns
returns c =
    let a = c.args in
    let e : c.loop-v.v ≡ a.stride = omega arith in
    c.loop-v.invariant ∙ ap (λ k. woven nan a.stride (length a.from.now) (replicate k a.from.now) a.to.now) e ∙ served_all _ _ _ c.requires
