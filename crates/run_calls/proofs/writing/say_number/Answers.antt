-- `say_number` meets its contract. Assumes nothing.
use Rattle.replies.proofs.Laws.{listed_none}
use Rattle.run_calls.proofs.writing.say_number.Goals as goal

pub returns : goal.returns
returns c = rw listed_none at c.say.ensures
