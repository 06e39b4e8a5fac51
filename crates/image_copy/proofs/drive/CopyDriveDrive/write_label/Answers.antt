use Rattle.std.proofs.Common.{◌∙◌, rules}
use Rattle.disk.specs.Media.{label_write}
use Rattle.image_copy.proofs.Having.{drive_rule, landed}
use Rattle.image_copy.proofs.drive.CopyDriveDrive.write_label.Goals as goal

pub returns-in_err-admit-clause-rule : goal.returns-in_err-admit-clause-rule
returns-in_err-admit-clause-rule c =
    let d = c.args.self.now in
    let e = c.admit.new.self in
    drive_rule (label_write c.args.at.page c.args.label) d.opened e.opened d.on d.words.now c.from_residual.result e.on e.words.now tt c.admit.ensures.opened (search rules)

pub returns : goal.returns
returns c =
    let d = c.args.self.now in
    let e = c.admit.new.self in
    let s = c.put_label.new.self in
    let a = c.admit.ensures in
    let p = c.put_label.ensures in
    let w = label_write c.args.at.page c.args.label in
    let x = landed w d.opened d.on d.words.now c.admit.result _ s.on e.words.now s.words.now a.answer c.in_ok-admit.was a.words (p.on ∙ a.on) p.words in
    record { rule = drive_rule w d.opened s.opened d.on d.words.now _ s.on s.words.now tt (p.opened ∙ a.opened) x; exactly = x; opened = p.opened ∙ a.opened }
