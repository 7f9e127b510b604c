-- `lines_size` meets its contract. The invariant: the bytes counted and those of the lines to come make all. Assumes nothing.
use Prim.Native.Nat.{ℕ, ◌+◌, ◌*◌, ◌-◌, ◌^◌, ◌≤◌, ◌<◌}
use mathlib.Core.Path.{◌≡◌}
use native.Mathlib.Omega.{arith}
use lib.ListN.{length}
use Rattle.text.specs.Digits.{decimal}
use Rattle.text.specs.Lines.{lines_size}
use Rattle.text.proofs.Decimal.{size_most}
use Rattle.text.proofs.Steps.{size_one}
use Rattle.text.proofs.lines.lines_size.Given as goal

pub record Counting (first n sum k : ℕ) : Type 0 where
  pub within : k ≤ n
  pub total : sum + lines_size (first + k) (n - k) ≡ lines_size first n
  pub small : sum ≤ 39 * k

pub start : (first n : ℕ) → Counting first n 0 0
start first n =
    let here : first + 0 ≡ first = omega arith in
    let all : n - 0 ≡ n = omega arith in
    record { within = omega arith; total = rw (here, all) (omega arith); small = omega arith }

pub turn : {first n sum k size : ℕ} → Counting first n sum k → k < n → first + n ≤ 2 ^ 64 → size ≡ length (decimal (first + k))
    → Counting first n (sum + (size + 19)) (k + 1)
turn {first} {n} {sum} {k} p h fits e =
    record {
      within = omega arith;
      total = omega (arith, p.total, size_one n first k h);
      small = omega (arith, p.small, size_most (first + k) (omega arith));
    }

abbrev pub invariant-loop-k : goal.invariant-loop-k
invariant-loop-k l = Counting l.first l.n l.sum l.k
