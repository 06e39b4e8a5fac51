use Rattle.disk.specs.Addresses.{real_address}
use Rattle.pack.proofs.fresh.directory_page_label.Goals as goal

pub returns : goal.returns
unfolding real_address
returns c = rw c.directory_leader_label.ensures
