use Rattle.std.proofs.Common.{refl}
use Rattle.pack.proofs.fresh.directory_leader_data.Goals as goal

pub returns : goal.returns
returns c = refl
