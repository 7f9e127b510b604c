-- `Transport::advance` meets its contract. Assumes nothing.
use Rattle.settings.specs.Records.{advanced_transport}
use Rattle.settings.proofs.record.Transport.advance.Goals as goal

pub returns : goal.returns
unfolding advanced_transport
returns c = rw c.nearest_u64_to_f64.ensures
