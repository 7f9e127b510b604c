-- The pattern for NaN, by computation. Assumes nothing.
use Rattle.std.specs.Prelude.{◌≡◌, refl}
use Rattle.std.specs.Float.{nan, binary32, binary64}
use Rattle.std.specs.Float.Ieee.{to_bits}

nan_32 : to_bits binary32 nan ≡ 0x7fc0_0000
unfolding to_bits
nan_32 = refl

nan_64 : to_bits binary64 nan ≡ 0x7ff8_0000_0000_0000
unfolding to_bits
nan_64 = refl
