-- `put_decimal` meets its contract. Assumes nothing.
use Prim.Native.Nat.{ℕ, suc, ◌+◌, ◌-◌, ◌/◌, ◌%◌, ◌≤◌, ◌<◌}
use mathlib.Core.Path.{◌≡◌, sym, ap, ◌∙◌}
use mathlib.Core.List.{List}
use native.Mathlib.Omega.{arith}
use lib.ListN.{length, set}
use Rattle.listlaws.specs.Over.{over}
use Rattle.listlaws.proofs.Over.{over_none}
use Rattle.text.specs.Digits.{decimal}
use Rattle.text.proofs.Decimal.{last_digits, last_length, last_all}
use Rattle.text.proofs.Over.{over_last}
use Rattle.text.proofs.digits.put_decimal.Goals as goal

start : (at n : ℕ) {size : ℕ} → size ≡ length (decimal n) → last_digits (at + size - at) n ≡ decimal n
start at n {size} e = let here : at + size - at ≡ length (decimal n) = omega arith in rw here (last_all n)

turn : (y : List ℕ) (at n k : ℕ) {j m : ℕ} → j ≡ at + k → m ≡ suc k → j < length y
    → over (set y j (48 + n % 10)) at (last_digits k (n / 10)) ≡ over y at (last_digits m n)
unfolding last_digits
turn y at n k j-is m-is room =
    let here : at + k ≡ at + length (last_digits k (n / 10)) = omega (arith, last_length k (n / 10)) in
    rw (m-is, j-is, here) (over_last y at (last_digits k (n / 10)) (48 + n % 10) (omega (arith, last_length k (n / 10))))

done : (y : List ℕ) (at i n : ℕ) → i ≤ at → over y at (last_digits (i - at) n) ≡ y
unfolding last_digits
done y at i n h = let none : i - at ≡ 0 = omega arith in rw none (over_none y at)

pub loop-i-init : goal.loop-i-init
loop-i-init c = ap (over c.args.out.now c.args.at) (start c.args.at c.args.n c.size.ensures)

pub loop-i-preserved : goal.loop-i-preserved
loop-i-preserved c =
    turn c.loop-i.out c.args.at c.loop-i.rest (c.loop-i.i - 1 - c.args.at) (omega arith) (omega arith) (omega (arith, c.requires, c.size.ensures)) ∙ c.loop-i.invariant

pub returns : goal.returns
returns c = record { next = rw c.size.ensures; bytes = sym (done c.loop-i.out c.args.at c.loop-i.i c.loop-i.rest c.loop-i-test.false) ∙ c.loop-i.invariant }
