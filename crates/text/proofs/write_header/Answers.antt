-- `write_header` meets its contract: the bytes are those of the header. Assumes nothing.
use Rattle.text.specs.Lines.{header}
use Rattle.text.proofs.write_header.Goals as goal

pub returns : goal.returns
unfolding header
returns c = c.write_text.ensures
