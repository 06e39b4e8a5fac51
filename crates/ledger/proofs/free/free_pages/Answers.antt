use Rattle.std.proofs.Common.{arith}
use Rattle.ledger.proofs.Running.{broke}
use Rattle.ledger.proofs.Freeing.{freed_more, freed_cut, freed_done}
use Rattle.ledger.proofs.free.free_pages.Goals as goal

pub returns-in_err-put_label : goal.returns-in_err-put_label
returns-in_err-put_label g c =
    broke _ _ _ _ _ c.from_residual.ensures.1
    (freed_cut _ c.loop-page.page _ _ _ _ _ (omega arith) (omega arith) c.free.ensures c.loop-page.invariant c.in_err-put_label.ensures)

pub loop-page-preserved : goal.loop-page-preserved
loop-page-preserved g c =
    freed_more _ c.loop-page.page _ _ _ _ (omega arith) (omega arith) c.free.ensures c.loop-page.invariant c.in_ok-put_label.ensures

pub returns : goal.returns
returns g c = freed_done _ c.loop-page.page _ _ (omega arith) c.loop-page.invariant
