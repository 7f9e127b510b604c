-- `put_decimal` meets its contract. The invariant: with the digits of the rest written from `at` on, the buffer is what it is to be.
-- Assumes nothing.
use Prim.Native.Nat.{◌-◌}
use mathlib.Core.Path.{◌≡◌}
use Rattle.listlaws.specs.Over.{over}
use Rattle.text.specs.Digits.{decimal}
use Rattle.text.proofs.Decimal.{last_digits}
use Rattle.text.proofs.digits.put_decimal.Given as goal

abbrev pub invariant-loop-i : goal.invariant-loop-i
invariant-loop-i l = over l.out l.at (last_digits (l.i - l.at) l.rest) ≡ over l.initial.out l.at (decimal l.n)
