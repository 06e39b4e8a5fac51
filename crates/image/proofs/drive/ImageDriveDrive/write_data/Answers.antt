use Rattle.std.proofs.Common.{◌≡◌, length, rules}
use Rattle.disk.specs.Media.{data_write}
use Rattle.image.proofs.Rules.{image_rule, Landed, landed}
use Rattle.image.proofs.drive.ImageDriveDrive.write_data.Goals as goal

pub returns-in_err-admit-clause-rule : goal.returns-in_err-admit-clause-rule
returns-in_err-admit-clause-rule c =
    let d = c.args.self.now in
    let e = c.admit.new.self in
    let full : length c.args.words.now ≡ 256 = search rules in
    image_rule (data_write c.args.at.page c.args.words.now) d.on d.words.now c.from_residual.result e.on e.words.now full (search rules)

went : (c : goal.After-store_data) → Landed (data_write c.args.at.page c.args.words.now) c.args.self.now.on c.args.self.now.words.now c.admit.new.self.on c.store_data.new.words c.admit.new.self.opened
went c =
    let d = c.args.self.now in
    let e = c.admit.new.self in
    let a = c.admit.ensures in
    let full : length c.args.words.now ≡ 256 = search rules in
    landed (data_write c.args.at.page c.args.words.now) d.on d.words.now c.admit.result _ e.on e.words.now c.store_data.new.words e.opened full a.answer c.in_ok-admit.was a.words a.on c.store_data.ensures e.kept

pub invariant_of-self : goal.invariant_of-self
invariant_of-self c = record { kept = (went c).kept }

pub returns : goal.returns
returns c = let l = went c.before in record { rule = l.rule; exactly = l.exactly }
