-- `leg::root` meets its contract, by the laws of proofs/Roots.antt. Assumes nothing.
use Rattle.std.proofs.Common.{ℕ, ◌*◌, ◌^◌, ◌<◌, ◌≤◌, sym, subst, pos_of_ne-zero, arith}
use lib.Ieee.{binary32}
use Rattle.floatlaws.proofs.Cut.{pattern_no_nan}
use Rattle.leg.specs.Root.{Half, scale_of}
use Rattle.leg.proofs.Roots.{Scaled, zeros, scaled, in_reach, shifted, at_most, none_is, some_is}
use Rattle.leg.proofs.root.Goals as goal
use Rattle.leg.proofs.root.Goals.{After-significand-m, Else-n-eq0}

some : (c : Else-n-eq0) → 0 < c.args.n
some c = pos_of_ne-zero c.if-n-eq0.false

scale : (c : Else-n-eq0) → Scaled c.args.n (scale_of c.args.n)
scale c = scaled c.args.n (some c) c.requires

half : (c : After-significand-m) → let n = c.args.n in Half (4 * (n * 4 ^ scale_of n)) c.significand-m.result
half c =
    let n = c.args.n in
    let s = scale_of n in
    subst (λ (y : ℕ). Half y c.significand-m.result) (shifted n s (scale c.before)) c.significand-m.ensures

small : (c : After-significand-m) → c.significand-m.result ≤ 2 ^ 24
small c = let n = c.args.n in at_most n (scale_of n) (scale c.before) c.significand-m.result (half c)

pub returns-then-n-eq0 : goal.returns-then-n-eq0
returns-then-n-eq0 c = rw c.if-n-eq0.true none_is

pub overflow_sub-s : goal.overflow_sub-s
overflow_sub-s c = omega (arith, zeros c.args.n (some (goal.at.overflow_sub-s c).Else-n-eq0) c.requires)

pub significand-m-requires : goal.significand-m-requires
significand-m-requires c =
    let n = c.args.n in
    let s = scale_of n in
    subst (λ (y : ℕ). (2 ^ 48 ≤ y) × (y < 2 ^ 50)) (sym (shifted n s (scale (goal.at.significand-m-requires c).Else-n-eq0))) (in_reach n s (scale (goal.at.significand-m-requires c).Else-n-eq0))

pub float_from_bits-result : goal.float_from_bits-result
float_from_bits-result c = pattern_no_nan binary32 _ (omega (arith, small (goal.at.float_from_bits-result c).After-significand-m))

pub returns : goal.returns
returns c = some_is c.args.n c.significand-m.result (some (goal.at.returns c).Else-n-eq0) c.requires (half (goal.at.returns c).After-significand-m)
