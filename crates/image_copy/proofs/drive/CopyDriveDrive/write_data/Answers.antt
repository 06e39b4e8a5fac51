use Rattle.std.proofs.Common.{◌≡◌, length, ◌∙◌, rules}
use Rattle.disk.specs.Media.{data_write}
use Rattle.image_copy.proofs.Having.{drive_rule, landed}
use Rattle.image_copy.proofs.drive.CopyDriveDrive.write_data.Goals as goal

pub returns-in_err-admit-clause-rule : goal.returns-in_err-admit-clause-rule
returns-in_err-admit-clause-rule c =
    let d = c.args.self.now in
    let e = c.admit.new.self in
    let full : length c.args.words.now ≡ 256 = search rules in
    drive_rule (data_write c.args.at.page c.args.words.now) d.opened e.opened d.on d.words.now c.from_residual.result e.on e.words.now full c.admit.ensures.opened (search rules)

pub returns : goal.returns
returns c =
    let d = c.args.self.now in
    let e = c.admit.new.self in
    let s = c.put_data.new.self in
    let a = c.admit.ensures in
    let p = c.put_data.ensures in
    let w = data_write c.args.at.page c.args.words.now in
    let full : length c.args.words.now ≡ 256 = search rules in
    let x = landed w d.opened d.on d.words.now c.admit.result _ s.on e.words.now s.words.now a.answer c.in_ok-admit.was a.words (p.on ∙ a.on) p.words in
    record { rule = drive_rule w d.opened s.opened d.on d.words.now _ s.on s.words.now full (p.opened ∙ a.opened) x; exactly = x; opened = p.opened ∙ a.opened }
