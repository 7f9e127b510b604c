-- `floatbits::bits_of_f64` meets its contract. Assumes nothing.
use Rattle.std.proofs.Common.{rules, subst, sym}
use Rattle.std.specs.Float.{binary64}
use Rattle.floatbits.specs.Bits.{BitsOf}
use Rattle.floatbits.proofs.Laws.{bits_of}
use Rattle.floatbits.proofs.bits_of_f64.Goals as goal

pub returns : goal.returns
returns c = subst (BitsOf binary64 c.args.x) (sym c.f64_to_bits_with_nan.ensures) (bits_of binary64 _ (search rules))
