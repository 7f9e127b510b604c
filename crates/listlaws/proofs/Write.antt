-- Lists written one behind the other. Assumes nothing.
--     puts_none, puts_more     nothing, and two lists that are one
--     put_long, puts_room      the buffer's length stays, and the room behind a list
--     Putting                  list by list: what is done, and what is still to come
--     written, not_written     from the test to the answer
--     wrote, left              from the answer to what was done
use Prim.Native.Nat.{ℕ, ◌+◌, ◌≤◌, ◌<◌}
use mathlib.Core.Path.{◌≡◌, refl, sym, ap, ◌∙◌}
use mathlib.Core.Bool.{Bool, true, false, cond}
use mathlib.Core.List.{List, [], ◌∷◌, ◌++◌}
use native.Mathlib.Omega.{arith}
use borrow.Author.Tests.{leb-false, le-leb}
use lib.ListN.{length, length-append}
use Rattle.listlaws.specs.Over.{over}
use Rattle.std.specs.Prelude.{Option, Some, None}
use Rattle.listlaws.specs.Write.{fits, Writes, Puts}
use Rattle.listlaws.proofs.Over.{over_none, length_over, over_over}

pub put_long : {x : List ℕ} {at : ℕ} {t : List ℕ} {r : ℕ} {y : List ℕ} → Puts x at t r y → at + length t ≤ length x → length y ≡ length x
put_long {x} {at} {t} p room = rw p.bytes (length_over x at t room)

pub puts_none : (x : List ℕ) (at : ℕ) → Puts x at [] at x
puts_none x at = record { next = omega arith; bytes = sym (over_none x at) }

-- two lists, one behind the other, are one
pub puts_more : {x : List ℕ} {at : ℕ} {t u : List ℕ} {m r : ℕ} {y z : List ℕ} → Puts x at t m y → Puts y m u r z
    → at + length t + length u ≤ length x → Puts x at (t ++ u) r z
puts_more {x} {at} {t} {u} p q room =
    record {
      next = rw length-append (omega (arith, p.next, q.next));
      bytes = rw (q.bytes, p.next, p.bytes) (over_over x at t u room);
    }

-- the room that is left behind a list
pub puts_room : {x : List ℕ} {at : ℕ} {t : List ℕ} {m : ℕ} {y : List ℕ} → Puts x at t m y → (n : ℕ) → at + length t + n ≤ length x → m + n ≤ length y
puts_room p n room = omega (arith, p.next, put_long p (omega arith))

-- ---- list by list

-- with the rest written from `place` on, y is what x is to be
pub record Putting (x : List ℕ) (at : ℕ) (all y : List ℕ) (place : ℕ) (rest : List ℕ) : Type 0 where
  pub bytes : over y place rest ≡ over x at all
  pub end : place + length rest ≡ at + length all
  pub long : length y ≡ length x

module _ {x : List ℕ} {at : ℕ} {all y : List ℕ} {place : ℕ} {rest : List ℕ} (p : Putting x at all y place rest)
    (room : at + length all ≤ length x) where
  pub put_room : (t u : List ℕ) → rest ≡ t ++ u → place + length t ≤ length y
  put_room t u e = omega (arith, p.end, p.long, ap length e, length-append t u)

  -- for one element
  pub put_space : (b : ℕ) (u : List ℕ) → rest ≡ b ∷ u → place < length y
  put_space b u e = omega (arith, p.end, p.long, ap length e)

  pub put_one : (t u : List ℕ) → rest ≡ t ++ u → {next : ℕ} {z : List ℕ} → Puts y place t next z → Putting x at all z next u
  put_one t u e put =
      let size : length rest ≡ length t + length u = rw e (length-append t u) in
      let fit : place + length t + length u ≤ length y = omega (arith, p.end, p.long) in
      record {
        bytes = rw (put.next, put.bytes, over_over y place t u fit) (rw e at p.bytes);
        end = rw put.next (omega (arith, p.end));
        long = put_long put (omega arith) ∙ p.long;
      }

  -- the last list
  pub put_last : {next : ℕ} {z : List ℕ} → Puts y place rest next z → Puts x at all next z
  put_last put = record { next = put.next ∙ p.end; bytes = put.bytes ∙ p.bytes }

  pub put_all : rest ≡ [] → Puts x at all place y
  put_all e = put_last (rw e (puts_none y place))

-- ---- all of it, or nothing

module _ (x : List ℕ) (at : ℕ) (t : List ℕ) {b : Bool} {size : ℕ} (size_is : size ≡ length t) (asked : b ≡ fits (length x) at size) where
  pub written : b ≡ true → {next : ℕ} {y : List ℕ} → Puts x at t next y → Writes x at t (Some next) y
  written e put =
      let yes : fits (length x) at (length t) ≡ true = rw size_is at (sym asked ∙ e) in
      record { answer = rw yes (ap Some put.next); bytes = rw yes put.bytes }

  pub not_written : b ≡ false → Writes x at t None x
  not_written e =
      let no : fits (length x) at (length t) ≡ false = rw size_is at (sym asked ∙ e) in
      record { answer = rw no; bytes = rw no }

-- where there is room
pub wrote : {x : List ℕ} {at : ℕ} {t : List ℕ} {r : Option ℕ} {y : List ℕ} → Writes x at t r y → at + length t ≤ length x
    → (r ≡ Some (at + length t)) × (y ≡ over x at t)
wrote {x} {at} {t} w h =
    let yes : fits (length x) at (length t) ≡ true = le-leb (at + length t) (length x) h in
    (rw yes at w.answer, rw yes at w.bytes)

-- with no room: there was none, and all bytes are as they were
pub left : {x : List ℕ} {at : ℕ} {t y : List ℕ} → Writes x at t None y → (length x < at + length t) × (y ≡ x)
left {x} {at} {t} {y} w = by_test (fits (length x) at (length t)) refl w.answer w.bytes
  where
    by_test : (b : Bool) → fits (length x) at (length t) ≡ b → None ≡ cond b (Some (at + length t)) None → y ≡ cond b (over x at t) x
        → (length x < at + length t) × (y ≡ x)
    by_test true e answer bytes = let z : ◌≡◌ {A = ℕ} 0 1 = cc answer in absurd (omega arith)
    by_test false e answer bytes = (leb-false _ _ e, bytes)
