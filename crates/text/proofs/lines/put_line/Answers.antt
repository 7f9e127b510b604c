-- `put_line` meets its contract: four texts, one behind the other. Assumes nothing.
use Prim.Native.Nat.{ℕ, ◌+◌, ◌≤◌, ◌<◌}
use mathlib.Core.List.{List, [], ◌∷◌, ◌++◌}
use native.Mathlib.Omega.{arith}
use lib.ListN.{length, length-append}
use lib.Ieee.{Float}
use Rattle.text.specs.Digits.{decimal}
use Rattle.text.specs.Lines.{blank, line_feed, bits_of, line}
use Rattle.text.specs.Write.{Puts}
use Rattle.listlaws.proofs.Write.{puts_more, puts_room}
use Rattle.text.proofs.Steps.{bits_length, line_parts}
use Rattle.text.proofs.lines.put_line.Goals as goal

module _ {o : List ℕ} {at : ℕ} (i : ℕ) (room : at + (length (decimal i) + 19) ≤ length o) {a : ℕ} {o' : List ℕ} (p : Puts o at (decimal i) a o') where
  room_x : a + 9 ≤ length o'
  room_x = puts_room p 9 (omega arith)

  module _ (x : Float) {b : ℕ} {o'' : List ℕ} (q : Puts o' a (blank ∷ bits_of x) b o'') where
    two : Puts o at (decimal i ++ (blank ∷ bits_of x)) b o''
    two = puts_more p q (omega (arith, bits_length x))

    room_y : b + 9 ≤ length o''
    room_y = puts_room two 9 (rw length-append (omega (arith, bits_length x)))

    module _ (y : Float) {c : ℕ} {o''' : List ℕ} (r : Puts o'' b (blank ∷ bits_of y) c o''') where
      three : Puts o at ((decimal i ++ (blank ∷ bits_of x)) ++ (blank ∷ bits_of y)) c o'''
      three = puts_more two r (rw length-append (omega (arith, bits_length x, bits_length y)))

      room_end : c < length o'''
      room_end =
          let e : c + 1 ≤ length o''' = puts_room three 1 (simp length-append (omega (arith, bits_length x, bits_length y))) in
          omega arith

      all : {d : ℕ} {z : List ℕ} → Puts o''' c (line_feed ∷ []) d z → Puts o at (line i x y) d z
      all s = rw line_parts at (puts_more three s (simp length-append (omega (arith, bits_length x, bits_length y))))

pub put_field-c-requires : goal.put_field-c-requires
put_field-c-requires c =
    (room_y c.args.index c.requires c.put_decimal-a.ensures c.args.x c.put_field-b.ensures)

pub put_byte-requires : goal.put_byte-requires
put_byte-requires c =
    let a = c.args in
    room_end a.index c.requires c.put_decimal-a.ensures a.x c.put_field-b.ensures a.y c.put_field-c.ensures

pub returns : goal.returns
returns c =
    let a = c.args in
    all a.index c.requires c.put_decimal-a.ensures a.x c.put_field-b.ensures a.y c.put_field-c.ensures c.put_byte.ensures
