-- `put` meets its contract: there is room. Assumes nothing.
use borrow.Author.Rules.{rules}
use Rattle.listlaws.proofs.Write.{wrote}
use Rattle.replies.proofs.put.Goals as goal

pub unwrap-requires : goal.unwrap-requires
unwrap-requires c = rw (wrote c.write.ensures c.requires).0 (search rules)
