-- Arrays of floats: filled, ascending, and searched. Assumes nothing.
use Rattle.std.specs.Prelude.{ℕ, ◌≤◌, ◌<◌, List, T, get_or, Float}
use Rattle.std.specs.Float.{nan}
use Rattle.std.specs.Float.Ieee.{le}
use Rattle.floatlaws.specs.Numbers.{f32_0}
use Rattle.listlaws.specs.Tables.{tabulate, padded, last_where}

-- f 0, .. f (n - 1), and zeros up to 64
abbrev pub floats : (ℕ → Float) → ℕ → List Float
floats f n = padded 64 f32_0 (tabulate f n)

-- how many of the first n stand up to the last one at or before x
unfoldable pub partition_point : List Float → ℕ → Float → ℕ
partition_point xs n x = last_where (λ k. le (get_or xs k nan) x) n

-- the first n ascend; so none of them is a NaN
abbrev pub Ascends : List Float → ℕ → Type 0
Ascends xs n = (i j : ℕ) → i ≤ j → j < n → T (le (get_or xs i nan) (get_or xs j nan))
