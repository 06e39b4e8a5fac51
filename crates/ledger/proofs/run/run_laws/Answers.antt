use Rattle.ledger.proofs.Running.{run_laws}
use Rattle.ledger.proofs.run.run_laws.Goals as goal

pub returns : goal.returns
returns c = run_laws
