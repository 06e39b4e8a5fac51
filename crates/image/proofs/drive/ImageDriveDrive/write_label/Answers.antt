use Rattle.std.proofs.Common.{rules}
use Rattle.disk.specs.Media.{label_write}
use Rattle.image.proofs.Rules.{image_rule, Landed, landed}
use Rattle.image.proofs.drive.ImageDriveDrive.write_label.Goals as goal

pub returns-in_err-admit-clause-rule : goal.returns-in_err-admit-clause-rule
returns-in_err-admit-clause-rule c =
    let d = c.args.self.now in
    let e = c.admit.new.self in
    image_rule (label_write c.args.at.page c.args.label) d.on d.words.now c.from_residual.result e.on e.words.now tt (search rules)

went : (c : goal.After-store_label) → Landed (label_write c.args.at.page c.args.label) c.args.self.now.on c.args.self.now.words.now c.admit.new.self.on c.store_label.new.words c.admit.new.self.opened
went c =
    let d = c.args.self.now in
    let e = c.admit.new.self in
    let a = c.admit.ensures in
    landed (label_write c.args.at.page c.args.label) d.on d.words.now c.admit.result _ e.on e.words.now c.store_label.new.words e.opened tt a.answer c.in_ok-admit.was a.words a.on c.store_label.ensures e.kept

pub invariant_of-self : goal.invariant_of-self
invariant_of-self c = record { kept = (went c).kept }

pub returns : goal.returns
returns c = let l = went c.before in record { rule = l.rule; exactly = l.exactly }
