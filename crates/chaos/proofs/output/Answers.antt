-- `chaos::output` meets its contract: what its two calls ensure is put in a row. Assumes nothing.
use mathlib.Core.Path.{◌≡◌, sym, subst}
use lib.Ieee.{Float, binary32, sub, mul, of_bits, round}
use Rattle.floatlaws.specs.Whole.{InUnit}
use Rattle.chaos.specs.declared.law.Attractor.{Attractor}
use Rattle.chaos.specs.declared.law.Law.{Law}
use Rattle.floatlaws.specs.Numbers.{f32}
use Rattle.chaos.specs.Law.{law_of}
use Rattle.floatlaws.specs.Extrema.{held_in}
use Rattle.chaos.specs.Advance.{output_of}
use Rattle.chaos.proofs.Box.{output_in}
use Rattle.chaos.proofs.output.Goals as goal

module _ (attractor : Attractor) (x : Float) {law : Law} {r : Float} where
  in_a_row : law ≡ law_of attractor → r ≡ held_in (f32 0 1) (f32 1 1) (mul binary32 (sub binary32 x law.out_lo) law.out_scale) → r ≡ output_of attractor x
  unfolding output_of
  in_a_row which out = rw (out, which)

pub returns : goal.returns
unfolding of_bits round
returns c =
    let attractor = c.args.attractor in
    let x = c.args.x in
    let is = in_a_row attractor x c.of-law.ensures c.held.ensures in
    record { value = is; in_unit = subst InUnit (sym is) (output_in attractor x) }
