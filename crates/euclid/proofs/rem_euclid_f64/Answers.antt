-- `euclid::rem_euclid_f64` meets its contract: each of its three ways out is a law of `Rattle.floatlaws.proofs.Euclid`. MIR has 0.0 by its bit pattern, and `of_bits` computes.
-- Assumes nothing.
use Rattle.std.proofs.Common.{ap, subst, ◌∙◌, ◌≡◌, true, false}
use lib.Ieee.{Float, binary64, of_bits, add, sub, lt}
use Rattle.floatlaws.proofs.Unique.{plus_zero}
use Rattle.floatlaws.proofs.Euclid.{euclid_plain, euclid_down, euclid_up}
use Rattle.euclid.proofs.rem_euclid_f64.Goals as goal

pub returns-then-y : goal.returns-then-y
unfolding of_bits
returns-then-y c =
    let a = c.args in
    let e = c.remainder-r.ensures in
    ap (λ (r : Float). sub binary64 r a.y) e ∙ euclid_down binary64 a.x a.y (subst (λ (r : Float). lt r plus_zero ≡ true) e c.if-r.true) c.if-y.true

pub returns-else-y : goal.returns-else-y
unfolding of_bits
returns-else-y c =
    let a = c.args in
    let e = c.remainder-r.ensures in
    ap (λ (r : Float). add binary64 r a.y) e ∙ euclid_up binary64 a.x a.y (subst (λ (r : Float). lt r plus_zero ≡ true) e c.if-r.true) c.if-y.false

pub returns-else-r : goal.returns-else-r
unfolding of_bits
returns-else-r c =
    let a = c.args in
    let e = c.remainder-r.ensures in
    e ∙ euclid_plain binary64 a.x a.y (subst (λ (r : Float). lt r plus_zero ≡ false) e c.if-r.false)
