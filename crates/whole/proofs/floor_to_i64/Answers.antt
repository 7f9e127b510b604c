-- `whole::floor_to_i64` meets its contract, by the law of proofs/Cast.antt. MIR has each number by its bit pattern, and `of_bits` and `neg` compute to the law's numbers.
-- Assumes nothing.
use Rattle.std.proofs.Common.{◌∙◌, w64}
use lib.Ieee.{binary64, add, to_signed, of_bits, neg}
use lib.Ieee.Casts.{to_signed_in}
use mir.ValLaws.{to_z-of_z}
use Rattle.floatlaws.proofs.Tests.{yes_so}
use Rattle.whole.proofs.Cast.{nought, cast}
use Rattle.whole.proofs.floor_to_i64.Goals as goal

pub float_to_int-result : goal.float_to_int-result
unfolding of_bits neg
float_to_int-result c =
    (cast c.args.x c.floor-t.result (yes_so c.if-x.true) (yes_so c.if-x-2.true) c.floor-t.ensures).0

pub returns-then-x-2 : goal.returns-then-x-2
unfolding of_bits neg
returns-then-x-2 c =
    let y = add binary64 c.floor-t.result nought in
    to_z-of_z w64 (to_signed 63 y) (record { sfits = to_signed_in 63 y })
    ∙ (cast c.args.x c.floor-t.result (yes_so c.if-x.true) (yes_so c.if-x-2.true) c.floor-t.ensures).1
