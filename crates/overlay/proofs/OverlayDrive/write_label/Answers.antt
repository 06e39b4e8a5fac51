use Rattle.std.proofs.Common.{refl}
use Rattle.std.proofs.lemmas.Result.{err_from_is_err_and}
use Rattle.disk.specs.Media.{label_write}
use Rattle.overlay.specs.Overlays.{held}
use Rattle.overlay.proofs.Writing.{refused, by_table}
use Rattle.overlay.proofs.OverlayDrive.write_label.Goals as goal

pub returns-in_err-accepts : goal.returns-in_err-accepts
returns-in_err-accepts g c =
    let p = err_from_is_err_and c.from_residual.result c.from_residual.ensures.1 in
    let o = refused (label_write c.args.at.page c.args.label) (g.R.Reader.medium c.args.self.now.below) (held c.args.self.now.table) c.args.self.now.on c.in_err-accepts.ensures.variant in
    rw (p.1, p.2, c.in_err-accepts.ensures.err) record { rule = o.rule; exactly = o.exactly; below = refl {a = c.args.self.now.below} }

pub returns : goal.returns
returns g c =
    let o = by_table (label_write c.args.at.page c.args.label) (g.R.Reader.medium c.args.self.now.below) (held c.args.self.now.table) (held c.put_label-kept.new.self) c.args.self.now.on _ c.put_label-kept.result c.answer.result c.answer.new.self.on c.in_ok-accepts.ensures.variant c.put_label-kept.ensures c.answer.ensures.on c.answer.ensures.result in
    rw (c.answer.ensures.table, c.answer.ensures.below) record { rule = o.rule; exactly = o.exactly; below = refl }
