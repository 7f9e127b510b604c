-- `last_text` meets its contract. Assumes nothing.
use Rattle.sittings.specs.Windows.{last_text}
use Rattle.listlaws.proofs.Write.{puts_none}
use Rattle.turns.specs.Turns.{course_of}
use Rattle.turns.proofs.One.{last_playing}
use Rattle.turns.proofs.steps.last_text.Goals as goal

pub returns-in-Opening-clause-text : goal.returns-in-Opening-clause-text
unfolding last_text
returns-in-Opening-clause-text c = rw c.in-Opening.is c.last_line.ensures.line

pub returns-in-Playing-clause-text : goal.returns-in-Playing-clause-text
returns-in-Playing-clause-text c =
    let line = c.last_line-in-Playing.ensures.line in
    rw (c.in-Playing.is, last_playing (course_of c.in-Playing.p) c.args.s.now c.last_fault.ensures) line

pub returns-in-Closing-clause-text : goal.returns-in-Closing-clause-text
unfolding last_text
returns-in-Closing-clause-text c = rw c.in-Closing.is (puts_none _ 0)

pub returns-in-Stuck-clause-text : goal.returns-in-Stuck-clause-text
unfolding last_text
returns-in-Stuck-clause-text c = rw c.in-Stuck.is c.last_line-in-Stuck.ensures.line

pub returns-in-NoMore-clause-text : goal.returns-in-NoMore-clause-text
unfolding last_text
returns-in-NoMore-clause-text c = rw c.in-NoMore.is (puts_none _ 0)
