-- Bounds on floats by whole numbers. Assumes nothing.
use Rattle.std.specs.Prelude.{ℕ, ◌*◌, ◌≤◌, true, false, Float}
use Rattle.std.specs.Float.{nan, inf, fin}
use Rattle.std.specs.Float.Ieee.{up, down}

-- finite, and at most n in size
abbrev pub Sized : Float → ℕ → Type 0
Sized nan n = ⊥
Sized (inf s) n = ⊥
Sized (fin s m e) n = m * up e ≤ n * down e

-- finite, without a sign, and at least j / k
abbrev pub Least : Float → ℕ → ℕ → Type 0
Least nan j k = ⊥
Least (inf s) j k = ⊥
Least (fin true m e) j k = ⊥
Least (fin false m e) j k = j * down e ≤ k * (m * up e)

-- the same as records, so that a proof need not name what is bounded
pub record Size (x : Float) (n : ℕ) : Type 0 where
  pub sized : Sized x n

pub record AtLeast (y : Float) (j k : ℕ) : Type 0 where
  pub least : Least y j k
