-- One value of a column written, and all of them. Assumes nothing.
use mathlib.Core.Path.{◌≡◌, ap}
use Prim.Native.Nat.{ℕ, ◌+◌, ◌*◌, ◌≤◌, ◌<◌}
use native.Mathlib.Nat.{suc-mul}
use native.Mathlib.Numerals.{add-one}
use native.Mathlib.Omega.{arith}
use mathlib.Core.List.{List}
use lib.ListN.{length, get_or, set, drop, drop_of_length-le}
use lib.Seq.{drop-cons}
use Rattle.columns.specs.Columns.{strided}

module _ {A : Type 0} (s p : ℕ) (from to : List A) (k : ℕ) where
  pub one_written : (d : A) → k < length from → strided s (p + (k + 1) * s) (drop (k + 1) from) (set to (p + k * s) (get_or from k d)) ≡ strided s (p + k * s) (drop k from) to
  unfolding strided
  one_written d h =
      let place : p + (k + 1) * s ≡ p + k * s + s = omega (arith, suc-mul k s, ap (λ j. j * s) (add-one k)) in
      rw (place, drop-cons from k d h, add-one k)

  pub all_written : length from ≤ k → strided s (p + k * s) (drop k from) to ≡ to
  unfolding strided
  all_written h = ap (λ l. strided s (p + k * s) l to) (drop_of_length-le from {i = k} h)
