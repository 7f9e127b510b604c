-- `write_numbers` meets its contract: no floats come after the numbers. Assumes nothing.
use Rattle.replies.proofs.Laws.{listed_none}
use Rattle.replies.proofs.write_numbers.Goals as goal

pub returns : goal.returns
returns c = rw listed_none at c.write_lists.ensures
