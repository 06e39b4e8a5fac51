use Rattle.std.proofs.Common.{sym, ap}
use Rattle.image.specs.Images.{pages_if}
use Rattle.image_copy.proofs.Having.{opened_has}
use Rattle.image_copy.proofs.drive.CopyDrive.into_words.Goals as goal

pub returns-clause-pages : goal.returns-clause-pages
returns-clause-pages c = let d = c.args.self in λ h. ap (λ b. pages_if b d.words.now) (sym (opened_has d.opened d.words.now h))
