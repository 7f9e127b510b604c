-- `put_lines` meets its contract: the lines that are written and those to come make all of them. Assumes nothing.
use Prim.Native.Nat.{ℕ, ◌+◌, ◌≤◌, ◌<◌}
use mathlib.Core.Path.{◌≡◌, sym}
use mathlib.Core.List.{List}
use native.Mathlib.Nat.{add-suc}
use native.Mathlib.Numerals.{add-one}
use native.Mathlib.Omega.{arith}
use lib.ListN.{length, drop, get_or}
use lib.Ieee.{Float, nan}
use Rattle.text.specs.Digits.{decimal}
use Rattle.text.specs.Lines.{line, lines, lines_size}
use Rattle.text.specs.Write.{Puts}
use Rattle.listlaws.proofs.Write.{Putting, put_room, put_one, put_all}
use Rattle.text.proofs.Steps.{line_length, lines_at, lines_end, lines_long}
use Rattle.text.proofs.lines.put_lines.Goals as goal

module _ {o : List ℕ} {at : ℕ} (first : ℕ) (x y : List Float) (k : ℕ) (long : length y ≡ length x) (room : at + lines_size first (length x) ≤ length o)
    {o' : List ℕ} {place : ℕ} (p : Putting o at (lines first x y) o' place (lines (first + k) (drop k x) (drop k y))) where
  all_room : at + length (lines first x y) ≤ length o
  all_room = rw (lines_long first x y (sym long)) room

  line_room : k < length x → place + (length (decimal (first + k)) + 19) ≤ length o'
  line_room h = rw line_length at (put_room p all_room (line (first + k) (get_or x k nan) (get_or y k nan)) _ (lines_at x y long (first + k) k h))

  turn : k < length x → {next : ℕ} {z : List ℕ} → Puts o' place (line (first + k) (get_or x k nan) (get_or y k nan)) next z
      → Putting o at (lines first x y) z next (lines (first + (k + 1)) (drop (k + 1) x) (drop (k + 1) y))
  turn h put = rw (add-one, add-suc) (put_one p all_room _ _ (lines_at x y long (first + k) k h) put)

  done : length x ≤ k → k ≤ length x → Puts o at (lines first x y) place o'
  done h h' = put_all p all_room (lines_end x y long (first + k) k h h')

pub put_line-place-requires : goal.put_line-place-requires
put_line-place-requires c = line_room c.args.first c.args.x.now c.args.y.now c.loop-k.k c.requires.0.0 c.requires.1 c.loop-k.invariant c.loop-k-test.true

pub loop-k-preserved : goal.loop-k-preserved
loop-k-preserved c = turn c.args.first c.args.x.now c.args.y.now c.loop-k.k c.requires.0.0 c.requires.1 c.loop-k.invariant c.loop-k-test.true c.put_line-place.ensures

pub returns : goal.returns
returns c = done c.args.first c.args.x.now c.args.y.now c.loop-k.k c.requires.0.0 c.requires.1 c.loop-k.invariant c.loop-k-test.false (omega arith)
