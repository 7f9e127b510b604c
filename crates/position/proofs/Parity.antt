-- The lowest of an i64's 64 bits says whether it is odd. Assumes nothing.
use mathlib.Core.Path.{◌≡◌, refl, ap, ◌∙◌}
use Prim.Native.Nat.{ℕ, suc, ◌-◌, ◌%◌, ◌^◌, ◌<◌}
use native.Mathlib.Omega.{arith}
use lib.Dec.{eqb}
use lib.Bits.{bit_and, and_mask}
use lib.IntN.{ℤ, pos, negsuc}
use mir.Syntax.{w64}
use mir.Val.{of_z, SFits}
use Rattle.position.specs.Position.{is_odd}

pub lowest_bit : (k : ℤ) → SFits w64 k → eqb (bit_and (of_z w64 k) 1) 1 ≡ is_odd k
lowest_bit (pos n) h = ap (λ (z : ℕ). eqb z 1) (and_mask n 1)
lowest_bit (negsuc n) h = ap (λ (z : ℕ). eqb z 1) (and_mask (2 ^ 64 - suc n) 1 ∙ even_less n (2 ^ 64) h.sfits refl refl)
  where
    even_less : (n p : ℕ) → n < 2 ^ 63 → 2 ^ 64 ≡ p → p % 2 ≡ 0 → (p - suc n) % 2 ≡ suc n % 2
    even_less n p h e z = omega arith
