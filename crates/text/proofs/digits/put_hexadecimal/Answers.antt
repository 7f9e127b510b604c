-- `put_hexadecimal` meets its contract: four pairs, one behind the other. Assumes nothing.
use Prim.Native.Nat.{ℕ, ◌+◌, ◌/◌, ◌%◌, ◌≤◌}
use mathlib.Core.List.{List, ◌++◌}
use native.Mathlib.Omega.{arith}
use borrow.Author.Rules.{rules}
use lib.ListN.{length, length-append}
use Rattle.text.specs.Digits.{pair_of, hexadecimal}
use Rattle.text.specs.Write.{Puts}
use Rattle.listlaws.proofs.Write.{puts_more, puts_room}
use Rattle.text.proofs.Hexadecimal.{pair_length, by_pairs}
use Rattle.text.proofs.digits.put_hexadecimal.Goals as goal

abbrev byte : ℕ → ℕ → List ℕ
byte n place = pair_of (n / place % 256)

module _ {x : List ℕ} {at : ℕ} (n : ℕ) (room : at + 8 ≤ length x) {a : ℕ} {y : List ℕ} (p : Puts x at (byte n 0x100_0000) a y) where
  room_2 : a + 2 ≤ length y
  room_2 = puts_room p 2 (rw pair_length (omega arith))

  module _ {b : ℕ} {z : List ℕ} (q : Puts y a (byte n 0x1_0000) b z) where
    two : Puts x at (byte n 0x100_0000 ++ byte n 0x1_0000) b z
    two = puts_more p q (simp pair_length (omega arith))

    room_3 : b + 2 ≤ length z
    room_3 = puts_room two 2 (simp (length-append, pair_length) (omega arith))

    module _ {c : ℕ} {w : List ℕ} (r : Puts z b (byte n 0x100) c w) where
      three : Puts x at ((byte n 0x100_0000 ++ byte n 0x1_0000) ++ byte n 0x100) c w
      three = puts_more two r (simp (length-append, pair_length) (omega arith))

      room_4 : c + 2 ≤ length w
      room_4 = puts_room three 2 (simp (length-append, pair_length) (omega arith))

      four : {d : ℕ} {v : List ℕ} → Puts w c (byte n 1) d v → Puts x at (hexadecimal n) d v
      four s = rw by_pairs (puts_more three s (simp (length-append, pair_length) (omega arith)))

pub put_pair-b-requires : goal.put_pair-b-requires
put_pair-b-requires c =
    (room_2 c.args.n c.requires c.put_pair-a.ensures, search rules)

pub put_pair-c-requires : goal.put_pair-c-requires
put_pair-c-requires c =
    (room_3 c.args.n c.requires c.put_pair-a.ensures c.put_pair-b.ensures, search rules)

pub put_pair-requires : goal.put_pair-requires
put_pair-requires c =
    (room_4 c.args.n c.requires c.put_pair-a.ensures c.put_pair-b.ensures c.put_pair-c.ensures, search rules)

pub returns : goal.returns
returns c =
    four c.args.n c.requires c.put_pair-a.ensures c.put_pair-b.ensures c.put_pair-c.ensures c.put_pair.ensures
