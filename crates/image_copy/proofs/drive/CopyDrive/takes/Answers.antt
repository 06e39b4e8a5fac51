use Rattle.std.proofs.Common.{rules}
use Rattle.image_copy.proofs.Having.{takes_by_mark, takes_none}
use Rattle.image_copy.proofs.drive.CopyDrive.takes.Goals as goal

pub returns-then-self : goal.returns-then-self
returns-then-self c =
    let d = c.args.self.now in
    let r = c.is_some_and.result in
    takes_by_mark d.opened d.words.now c.args.page c.stored_mark.result r c.if-self.true c.stored_mark.ensures (search rules)

pub returns-else-self : goal.returns-else-self
returns-else-self c = let d = c.args.self.now in takes_none d.opened d.words.now c.args.page c.if-self.false
