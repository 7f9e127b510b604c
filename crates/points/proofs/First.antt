-- Of the first n of a list alone: what reads no element after them says the same. Assumes nothing.
use mathlib.Core.Path.{◌≡◌, refl}
use Prim.Native.Nat.{ℕ, zero, suc, ◌<◌}
use native.Mathlib.Nat.{le_refl}
use native.Mathlib.Omega.{arith}
use Rattle.listlaws.specs.Tables.{tabulate}

pub tabulate_same : {A : Type 0} (f g : ℕ → A) (n : ℕ) → ((k : ℕ) → k < n → f k ≡ g k) → tabulate f n ≡ tabulate g n
unfolding tabulate
tabulate_same f g zero h = refl
tabulate_same f g (suc n) h = rw (tabulate_same f g n (λ (k : ℕ) (l : k < n). h k (omega arith)), h n (le_refl (suc n)))
