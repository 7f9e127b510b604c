-- `bend::table::entries` meets its contract: the code's table is that of specs/Entries.antt. Assumes nothing.
use Rattle.std.proofs.Common.{rules}
use Rattle.bend.specs.Entries.{entries}
use Rattle.bend.proofs.table.entries.Goals as goal

pub returns : goal.returns
unfolding entries
returns c = search rules
