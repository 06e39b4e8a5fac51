use Rattle.std.proofs.Common.{ap, arith}
use Rattle.std.proofs.lemmas.Result.{on_err_weaker}
use Rattle.overlay.proofs.Keeping.{open_found, open_new, open_full}
use Rattle.overlay.proofs.table.SlotTable.open.Goals as goal

pub returns-in-Some : goal.returns-in-Some
returns-in-Some c = open_found c.args.self.now.slots.items c.args.at.page c.in-Some.i c.in-Some.ensures

pub returns-in_err-map_err : goal.returns-in_err-map_err
returns-in_err-map_err c =
    open_full c.args.self.now.slots.items c.try_push.new.self.items c.args.at.page _ c.try_push.result c.from_residual.result c.in_default.ensures c.in_err-map_err.ensures.variant (on_err_weaker c.try_push.result (λ e. ap (λ v. v.items) e) c.try_push.ensures.err) c.try_push.ensures.full (omega arith) c.from_residual.ensures.0

pub returns : goal.returns
returns c =
    open_new c.args.self.now.slots.items c.try_push.new.self.items c.args.at.page _ c.len.result c.new.result c.try_push.result c.in_default.ensures c.in_ok-map_err.ensures.variant c.try_push.ensures.variant (omega arith) c.try_push.ensures.ok c.new.ensures c.len.ensures.value
