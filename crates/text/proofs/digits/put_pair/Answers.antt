-- `put_pair` meets its contract: a byte's digits stand at twice its place in the table. Assumes nothing.
use Prim.Native.Nat.{ℕ, ◌+◌, ◌*◌, ◌≤◌, ◌<◌}
use mathlib.Core.Path.{◌≡◌, refl}
use mathlib.Core.List.{List}
use native.Mathlib.Nat.{add-zero}
use native.Mathlib.Numerals.{add-one}
use native.Mathlib.Omega.{arith}
use borrow.Author.Rules.{rules}
use lib.ListN.{length, set, get_or}
use Rattle.text.specs.Digits.{glyph, pair_of, pairs_below}
use Rattle.text.specs.Write.{Puts}
use Rattle.text.proofs.Over.{puts_sets}
use Rattle.text.proofs.Hexadecimal.{pairs_at}
use Rattle.text.proofs.digits.put_pair.Goals as goal

put : {x t : List ℕ} {at n : ℕ} → at + 2 ≤ length x → t ≡ pairs_below 256 → n < 256
    → Puts x at (pair_of n) (at + 2) (set (set x at (get_or t (2 * n) 0)) (at + 1) (get_or t (2 * n + 1) 0))
unfolding pair_of
put {n = n} room t-is h =
    let high : get_or (pairs_below 256) (2 * n) 0 ≡ get_or (pair_of n) 0 0 = rw add-zero at (pairs_at 256 n 0 h (omega arith)) in
    let low : get_or (pairs_below 256) (2 * n + 1) 0 ≡ get_or (pair_of n) 1 0 = pairs_at 256 n 1 h (omega arith) in
    puts_sets (pair_of n) room refl (rw (t-is, high, low, add-one))

pub returns : goal.returns
unfolding pairs_below pair_of glyph
returns c = put c.requires.0 refl (search rules)
