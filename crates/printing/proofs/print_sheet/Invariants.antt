-- What `print_sheet` keeps at each turn, and what falls: what is read goes from `left` to the window. Assumes nothing.
use Rattle.std.proofs.Common.{◌+◌, ◌-◌, ◌*◌, ◌≤◌}
use Rattle.printing.proofs.Loop.{Fine}
use Rattle.printing.proofs.print_sheet.Given as goal

abbrev pub invariant-loop-window : goal.invariant-loop-window
invariant-loop-window g l = record {
  fine : Fine l.sitting l.window l.out l.x l.y l.from l.have l.left;
  within : l.left ≤ l.most;
}

abbrev pub decreases-loop-window : goal.decreases-loop-window
decreases-loop-window g l = 2 * l.left + (l.have - l.from)
