use Rattle.disk.proofs.Naming.{address_examples}
use Rattle.disk.proofs.address.address_examples.Goals as goal

pub returns : goal.returns
returns c = address_examples
