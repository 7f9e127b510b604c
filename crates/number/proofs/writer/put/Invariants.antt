-- `number::writer::put` meets its contract. The invariant: the bytes of the rest, stored from `i` on, make what is to be written.
-- Assumes nothing.
use Prim.Native.Nat.{ℕ, ◌+◌, ◌/◌, ◌%◌, ◌^◌, ◌≤◌, ◌<◌}
use mathlib.Core.Path.{◌≡◌, ap, ◌∙◌}
use mathlib.Core.List.{List, [], ◌∷◌}
use native.Mathlib.Numerals.{add-one}
use native.Mathlib.Omega.{arith}
use lib.ListN.{length, set, length-set}
use lib.Seq.{sets, sets-eq}
use Rattle.number.specs.Encoded.{encoded}
use Rattle.listlaws.specs.Over.{over}
use Rattle.listlaws.specs.Write.{Puts}
use Rattle.number.proofs.Form.{encoded_last, encoded_more, encoded_some}
use Rattle.number.proofs.writer.put.Given as goal

pub record Putting (x : List ℕ) (at n : ℕ) (y : List ℕ) (rest i : ℕ) : Type 0 where
  pub bytes : sets y i (encoded rest) ≡ sets x at (encoded n)
  pub end : i + length (encoded rest) ≡ at + length (encoded n)
  pub long : length y ≡ length x
  pub small : rest < 2 ^ 64

module _ {x : List ℕ} {at n : ℕ} {y : List ℕ} {rest i : ℕ} (p : Putting x at n y rest i) where
  -- one group more
  pub turn : 127 < rest → {b : ℕ} → b ≡ rest % 128 + 128 → Putting x at n (set y i b) (rest / 128) (i + 1)
  turn h b-is =
      let e : encoded rest ≡ (rest % 128 + 128) ∷ encoded (rest / 128) = encoded_more rest h p.small in
      record {
        bytes = rw (b-is, add-one) (rw e at p.bytes);
        end = omega (arith, ap length e);
        long = simp length-set p.long;
        small = omega arith;
      }

  -- the last group
  pub done : rest ≤ 127 → {b : ℕ} → b ≡ rest → at + length (encoded n) ≤ length x
      → Puts x at (encoded n) (i + 1) (set y i b)
  unfolding over
  done h b-is room =
      let e : encoded rest ≡ rest ∷ [] = encoded_last rest (omega arith) in
      record { next = omega (arith, ap length e); bytes = rw b-is (rw e at p.bytes) ∙ sets-eq (encoded n) x at room }

  -- there is a byte to store
  pub inside : at + length (encoded n) ≤ length x → i < length y
  inside room = omega (arith, encoded_some rest p.small)

abbrev pub invariant-loop-rest : goal.invariant-loop-rest
invariant-loop-rest l = Putting l.initial.out l.at l.n l.out l.rest l.i

abbrev pub decreases-loop-rest : goal.decreases-loop-rest
decreases-loop-rest l = l.rest
