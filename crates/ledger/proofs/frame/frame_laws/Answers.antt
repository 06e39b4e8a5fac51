use Rattle.ledger.proofs.Framing as framing
use Rattle.ledger.proofs.frame.frame_laws.Goals as goal

pub returns : goal.returns
returns c = framing.frame_laws
