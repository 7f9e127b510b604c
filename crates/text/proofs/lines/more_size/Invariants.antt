-- `more_size` meets its contract. The invariant: the bytes counted and those to come are one more than all, since the end is counted
-- first. Assumes nothing.
use Prim.Native.Nat.{ℕ, suc, ◌+◌, ◌*◌, ◌^◌, ◌≤◌, ◌<◌}
use mathlib.Core.Path.{◌≡◌, ap}
use mathlib.Core.List.{List, ◌∷◌}
use native.Mathlib.Numerals.{add-one}
use native.Mathlib.Omega.{arith}
use lib.ListN.{length, drop, get_or, length-append}
use Rattle.text.specs.Digits.{decimal}
use Rattle.text.specs.Lines.{blank, more}
use Rattle.text.proofs.Decimal.{size_most}
use Rattle.text.proofs.Steps.{more_at}
use Rattle.text.proofs.lines.more_size.Given as goal

pub record Counting (s : List ℕ) (sum i : ℕ) : Type 0 where
  pub within : i ≤ length s
  pub total : sum + length (more (drop i s)) ≡ 1 + length (more s)
  pub small : sum ≤ 1 + 21 * i

pub turn : {s : List ℕ} {sum i size : ℕ} → Counting s sum i → i < length s → get_or s i 0 < 2 ^ 64 → size ≡ length (decimal (get_or s i 0))
    → Counting s (sum + (size + 1)) (i + 1)
turn {s} {sum} {i} p h small e =
    let next : i + 1 ≡ suc i = add-one i in
    record {
      within = omega arith;
      total = rw next (omega (arith, p.total, ap length (more_at s i h), length-append (blank ∷ decimal (get_or s i 0)) (more (drop (suc i) s))));
      small = omega (arith, p.small, size_most (get_or s i 0) small);
    }

abbrev pub invariant-loop-n : goal.invariant-loop-n
invariant-loop-n l = Counting l.s l.sum l.n-index
