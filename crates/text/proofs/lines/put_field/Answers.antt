-- `put_field` meets its contract: a blank, and the digits of the bits. Assumes nothing.
use Prim.Native.Nat.{ℕ, ◌+◌, ◌≤◌}
use mathlib.Core.Path.{◌≡◌}
use mathlib.Core.List.{List, [], ◌∷◌}
use native.Mathlib.Omega.{arith}
use lib.ListN.{length}
use lib.Ieee.{Float, binary32, to_bits}
use Rattle.text.specs.Digits.{hexadecimal}
use Rattle.text.specs.Lines.{blank, bits_of}
use Rattle.text.specs.Write.{Puts}
use Rattle.listlaws.proofs.Write.{puts_more}
use Rattle.text.proofs.Steps.{hexadecimal_length}
use Rattle.text.proofs.lines.put_field.Goals as goal

put : {x y z : List ℕ} {at a r n : ℕ} (v : Float) → at + 9 ≤ length x → Puts x at (blank ∷ []) a y → n ≡ to_bits binary32 v
    → Puts y a (hexadecimal n) r z → Puts x at (blank ∷ bits_of v) r z
unfolding bits_of
put {n = n} v room p bits q = rw (← bits) (puts_more p q (omega (arith, hexadecimal_length n)))

pub returns : goal.returns
returns c =
    put c.args.x c.requires c.put_byte-a.ensures c.bits_of_f32.ensures.bits c.put_hexadecimal.ensures
