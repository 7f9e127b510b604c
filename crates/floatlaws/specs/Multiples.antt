-- Multiples of 1 / n. Assumes nothing.
use Rattle.std.specs.Prelude.{ℕ, ◌*◌, ◌/◌, ◌%◌, ◌↔◌, Bool, false, T, eqb, Float}
use Rattle.std.specs.Float.{nan, inf, fin}
use Rattle.std.specs.Float.Ieee.{up, down}
use Rattle.std.specs.Float.Ieee.Exact.{HasValue}

-- x is a multiple of 1 / n: n times m * 2 ^ e is whole
unfoldable pub is_multiple : ℕ → Float → Bool
is_multiple n nan = false
is_multiple n (inf s) = false
is_multiple n (fin s m e) = eqb (m * up e * n % down e) 0

-- the largest k with k / n no more than x in size; 0 of what is not finite
unfoldable pub multiples_in : ℕ → Float → ℕ
multiples_in n nan = 0
multiples_in n (inf s) = 0
multiples_in n (fin s m e) = m * up e * n / down e

-- `is_multiple n` holds of k / n and, where s, of -k / n, and of nothing else
abbrev pub MultipleRule : Type 0
MultipleRule = (n : ℕ) (x : Float) → T (is_multiple n x) ↔ ((s : Bool) × (k : ℕ) × HasValue x s k n)
