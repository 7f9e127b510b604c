-- `number::reader::ends_right` meets its contract: each arm is what `right_end` computes to there. Assumes nothing.
use Prim.Native.Nat.{ℕ, zero, suc, ◌<◌}
use mathlib.Core.Path.{◌≡◌, refl}
use mathlib.Core.Bool.{false, not}
use native.Mathlib.Omega.{arith}
use borrow.Author.Tests.{lt-ltb, le-ltb, ne_eqb}
use lib.Dec.{eqb}
use Rattle.number.specs.Read.{shortest, right_end}
use Rattle.number.proofs.Judge.{several}
use Rattle.number.proofs.reader.ends_right.Goals as goal

few : (k b : ℕ) → 0 < k → k < 9 → not (eqb b 0) ≡ right_end k b
unfolding right_end
few k zero some h = rw (several k 0 some)
few k (suc b) some h = rw (several k (suc b) some, lt-ltb k 9 h, lt-ltb 0 (suc b) (omega arith), ne_eqb (suc b) 0 (λ e. omega arith))

ten : (b : ℕ) → eqb b 1 ≡ right_end 9 b
unfolding right_end shortest
ten zero = refl
ten (suc zero) = refl
ten (suc (suc b)) = rw (ne_eqb (suc (suc b)) 1 (λ e. omega arith), le-ltb (suc (suc b)) 2 (omega arith), lt-ltb 0 (suc (suc b)) (omega arith))

many : (k b : ℕ) → 9 < k → false ≡ right_end k b
unfolding right_end
many k zero h = rw (several k 0 (omega arith))
many k (suc b) h = rw (several k (suc b) (omega arith), lt-ltb 0 (suc b) (omega arith), le-ltb k 9 (omega arith), ne_eqb k 9 (λ e. omega arith))

pub returns-in-0 : goal.returns-in-0
unfolding right_end shortest
returns-in-0 c = rw c.in-0.is

pub returns-in-9 : goal.returns-in-9
returns-in-9 c = rw c.in-9.is (ten _)

pub returns-in-1-to-8 : goal.returns-in-1-to-8
returns-in-1-to-8 c = few _ _ (omega arith) (omega arith)

pub returns-in_default : goal.returns-in_default
returns-in_default c = many _ _ (omega arith)
