-- `next` meets its contract. Assumes nothing.
use Rattle.stored.proofs.Lines.{no_lines}
use Rattle.stored.proofs.next.Goals as goal

pub returns-in_default : goal.returns-in_default
returns-in_default g c = no_lines _
