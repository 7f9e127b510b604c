-- Laws of the output: what fits. Assumes nothing.
use Prim.Native.Nat.{ℕ, zero, suc, ◌+◌, ◌≤◌}
use mathlib.Core.Path.{◌≡◌, refl}
use mathlib.Core.Bool.{Bool, true, false, cond}
use mathlib.Core.List.{List, [], ◌∷◌, ◌++◌}
use native.Mathlib.Omega.{arith}
use borrow.Author.Tests.{leb-true, le-ltb}
use lib.ListN.{length, length-append}
use Rattle.replies.specs.Replies.{bytes_of, fits, fitting}
use Rattle.outputs.specs.Output.{Calling, given}

-- what fits has room
pub fitting_room : (len place : ℕ) (all : List (List ℕ)) → place ≤ len → place + length (fitting len place all) ≤ len
unfolding fitting
fitting_room len place [] h = omega arith
fitting_room len place (l ∷ rest) h = by_fit (fits len place (length (bytes_of l))) refl (fitting_room len (place + length (bytes_of l)) rest)
  where
    by_fit : (t : Bool) → fits len place (length (bytes_of l)) ≡ t
        → (place + length (bytes_of l) ≤ len → place + length (bytes_of l) + length (fitting len (place + length (bytes_of l)) rest) ≤ len)
        → place + length (cond t (bytes_of l ++ fitting len (place + length (bytes_of l)) rest) []) ≤ len
    by_fit true e more = rw length-append (omega (arith, more (leb-true (place + length (bytes_of l)) len e)))
    by_fit false e more = omega arith

-- past the end there is no call
pub given_past : {M S A : Type 0} (C : Calling M S A) (most : ℕ) (s : S) (run : List ℕ) (at : ℕ) → length run ≤ at → given C most s run at ≡ []
unfolding given
given_past C zero s run at h = refl
given_past C (suc most) s run at h = rw (le-ltb at (length run) h)
