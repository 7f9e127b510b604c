-- `floatbits::bits_of_f32` meets its contract. Assumes nothing.
use Rattle.std.proofs.Common.{rules, subst, sym}
use Rattle.std.specs.Float.{binary32}
use Rattle.floatbits.specs.Bits.{BitsOf}
use Rattle.floatbits.proofs.Laws.{bits_of}
use Rattle.floatbits.proofs.bits_of_f32.Goals as goal

pub returns : goal.returns
returns c = subst (BitsOf binary32 c.args.x) (sym c.f32_to_bits_with_nan.ensures) (bits_of binary32 _ (search rules))
