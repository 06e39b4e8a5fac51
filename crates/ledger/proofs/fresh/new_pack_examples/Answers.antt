use Rattle.std.proofs.Common.{refl}
use Rattle.disk.specs.Addresses.{page_named, real_address}
use Rattle.survey.specs.Chains.{rest, leader_of}
use Rattle.survey.specs.Verdicts.{table_of}
use Rattle.ledger.proofs.fresh.new_pack_examples.Goals as goal

pub returns : goal.returns
unfolding page_named real_address rest leader_of table_of
returns c = record { verdicts = refl; leader = refl; page = refl; entry = refl; hole = refl }
