use Rattle.std.proofs.Common.{refl}
use Rattle.std.proofs.lemmas.Result.{err_from_is_err_and}
use Rattle.disk.specs.Media.{data_write}
use Rattle.overlay.specs.Overlays.{held}
use Rattle.overlay.proofs.Writing.{refused, by_table}
use Rattle.overlay.proofs.OverlayDrive.write_data.Goals as goal

pub returns-in_err-accepts : goal.returns-in_err-accepts
returns-in_err-accepts g c =
    let p = err_from_is_err_and c.from_residual.result c.from_residual.ensures.1 in
    let o = refused (data_write c.args.at.page c.args.words.now) (g.R.Reader.medium c.args.self.now.below) (held c.args.self.now.table) c.args.self.now.on c.in_err-accepts.ensures.variant in
    rw (p.1, p.2, c.in_err-accepts.ensures.err) record { rule = o.rule; exactly = o.exactly; below = refl {a = c.args.self.now.below} }

pub returns : goal.returns
returns g c =
    let o = by_table (data_write c.args.at.page c.args.words.now) (g.R.Reader.medium c.args.self.now.below) (held c.args.self.now.table) (held c.put_data-kept.new.self) c.args.self.now.on _ c.put_data-kept.result c.answer.result c.answer.new.self.on c.in_ok-accepts.ensures.variant c.put_data-kept.ensures c.answer.ensures.on c.answer.ensures.result in
    rw (c.answer.ensures.table, c.answer.ensures.below) record { rule = o.rule; exactly = o.exactly; below = refl }
