-- The buffers as they are before a block. Assumes nothing.
use Prim.Native.Nat.{ℕ, zero, suc, ◌≤◌}
use mathlib.Core.Path.{◌≡◌, refl, ap}
use mathlib.Core.List.{List, ◌∷◌}
use native.Mathlib.Omega.{arith}
use lib.ListN.{length, take, replicate, length-replicate}
use lib.Ieee.{Float}
use Rattle.outputs.specs.Numbers.{sevens}

module _ {A : Type 0} (a : A) where
  take_replicate : (n m : ℕ) → n ≤ m → take n (replicate m a) ≡ replicate n a
  take_replicate zero m h = refl
  take_replicate (suc n) zero h = absurd (omega arith)
  take_replicate (suc n) (suc m) h = ap (λ l. a ∷ l) (take_replicate n m (omega arith))

module _ (m : ℕ) {l : List Float} (e : l ≡ sevens m) where
  pub sevens_first : (n : ℕ) → n ≤ m → take n l ≡ sevens n
  sevens_first n h = rw e (take_replicate _ n m h)
