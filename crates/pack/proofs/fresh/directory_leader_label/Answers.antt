use Rattle.std.proofs.Common.{refl}
use Rattle.disk.specs.Addresses.{real_address}
use Rattle.pack.proofs.fresh.directory_leader_label.Goals as goal

pub returns : goal.returns
unfolding real_address
returns c = refl
