-- `put_more` meets its contract: what is written and what is to come make all of it. Assumes nothing.
use Prim.Native.Nat.{ℕ, ◌+◌, ◌≤◌, ◌<◌}
use mathlib.Core.List.{List, [], ◌∷◌}
use lib.ListN.{length, drop, get_or}
use Rattle.text.specs.Digits.{decimal}
use Rattle.text.specs.Lines.{blank, line_feed, more}
use Rattle.listlaws.proofs.Write.{Putting, put_room, put_space}
use Rattle.text.proofs.Steps.{more_at, more_end}
use Rattle.text.proofs.lines.put_more.Given as goal

module _ {o : List ℕ} {at : ℕ} (s : List ℕ) (room : at + length (more s) ≤ length o) {o' : List ℕ} {place : ℕ} (i : ℕ)
    (p : Putting o at (more s) o' place (more (drop i s))) where
  pub next_room : i < length s → place + length (blank ∷ decimal (get_or s i 0)) ≤ length o'
  next_room h = put_room p room (blank ∷ decimal (get_or s i 0)) _ (more_at s i h)

  pub end_room : length s ≤ i → i ≤ length s → place < length o'
  end_room h h' = put_space p room line_feed [] (more_end s i h h')

abbrev pub invariant-loop-n : goal.invariant-loop-n
invariant-loop-n l = Putting l.initial.out l.at (more l.s) l.out l.place (more (drop l.n-index l.s))
