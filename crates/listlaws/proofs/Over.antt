-- Laws of a list that is written over. Assumes nothing.
use Prim.Native.Nat.{ℕ, ◌+◌, ◌≤◌, ◌<◌}
use mathlib.Core.Path.{◌≡◌}
use mathlib.Core.List.{List, [], ◌∷◌, ◌++◌, append_assoc, append-nil}
use native.Mathlib.Nat.{add_assoc, add-zero, zero-add, add-suc}
use native.Mathlib.Numerals.{add-one}
use native.Mathlib.Omega.{arith}
use lib.ListN.{length, take, drop, set, length-append, length-take, length-drop, take-append-drop}
use lib.Seq.{take_at, set_at, drop-cons, drop-append-add, drop-drop}
use Rattle.listlaws.specs.Over.{over}

module _ {A : Type 0} where
  -- nothing written over
  pub over_none : (x : List A) (at : ℕ) → over x at [] ≡ x
  unfolding over
  over_none x at = rw (append-nil (take at x), add-zero at) (take-append-drop at x)

  -- from the front
  pub over_front : (x l : List A) → over x 0 l ≡ l ++ drop (length l) x
  unfolding over
  over_front x l = rw (zero-add (length l))

  module _ (x : List A) (at : ℕ) (l : List A) where
    pub length_over : at + length l ≤ length x → length (over x at l) ≡ length x
    unfolding over
    length_over room = simp (length-append, length-drop, length-take) (omega arith)

    -- one element more, stored where the list ended
    pub over_more : (a : A) → at + length l < length x → set (over x at l) (at + length l) a ≡ over x at (l ++ (a ∷ []))
    unfolding over
    over_more a room =
        let size : length (take at x ++ l) ≡ at + length l = simp (length-append, length-take) (omega arith) in
        rw (drop-cons x (at + length l) a room, set_at (take at x ++ l) _ _ a (at + length l) size)
        (simp (append_assoc, length-append, add-one, add-suc))

    -- the same, where the list is known to have n elements
    pub over_more_at : (a : A) (n : ℕ) → length l ≡ n → at + n < length x → set (over x at l) (at + n) a ≡ over x at (l ++ (a ∷ []))
    over_more_at a n e room = rw (← e) (over_more a (omega arith))

    -- two lists, one behind the other, are one
    pub over_over : (l' : List A) → at + length l + length l' ≤ length x → over (over x at l) (at + length l) l' ≡ over x at (l ++ l')
    unfolding over
    over_over l' room =
        let size : length (take at x ++ l) ≡ at + length l = simp (length-append, length-take) (omega arith) in
        rw (take_at (take at x ++ l) _ (at + length l) size, ← size, drop-append-add, drop-drop, size)
        (simp (append_assoc, length-append, add_assoc))
