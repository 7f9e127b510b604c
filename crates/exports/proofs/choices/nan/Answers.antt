-- `nan` meets its contract. Assumes nothing.
use Rattle.floatbits.proofs.Laws.{made_32}
use Rattle.exports.proofs.choices.nan.Goals as goal

pub returns : goal.returns
returns c = made_32
