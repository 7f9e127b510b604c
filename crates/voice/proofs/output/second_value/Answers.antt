-- `second_value` meets its contract. Assumes nothing.
use Rattle.voice.proofs.Outputs.{value_by}
use Rattle.voice.proofs.output.second_value.Goals as goal

pub returns-then-is_path : goal.returns-then-is_path
returns-then-is_path c = rw (← value_by _ _ _, ← c.is_path.ensures, c.if-is_path.true)

pub returns : goal.returns
returns c = rw (← value_by _ _ _, ← c.is_path.ensures, c.if-is_path.false)
