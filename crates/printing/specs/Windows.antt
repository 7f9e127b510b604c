-- What is promised of the window through which standard input is read. Assumes nothing.
use Rattle.std.specs.Prelude.{ℕ, ◌+◌, ◌-◌, ◌≤◌, ◌≡◌, List, Result, IfOk, length, take, drop}

-- The bytes at hand of a window, those from the place `from` up to the place `have`.
abbrev pub held : List ℕ → ℕ → ℕ → List ℕ
held window from have = take (have - from) (drop from window)

-- Those at hand stand in front, and what was read stands behind them. Which bytes were read, no contract says; the answer counts them, and the input has ended where
-- there are none.
pub record Refills {E : Type 0} (window : List ℕ) (from have left : ℕ) (count : Result ℕ E) (window' : List ℕ) : Type 0 where
  pub same : take (have - from) window' ≡ held window from have
  pub within : IfOk count (λ n. (have - from + n ≤ length window') × (n ≤ left))
