use Rattle.std.proofs.Common.{true, ◌∙◌}
use Rattle.image_copy.proofs.Having.{new_medium, opened_is}
use Rattle.image_copy.proofs.drive.CopyDrive.new.Goals as goal

pub returns-clause-medium : goal.returns-clause-medium
returns-clause-medium c =
    let ws = c.args.words.now in
    new_medium c.is_ok-opened.result true ws (c.is_ok-opened.ensures.value ∙ opened_is ws c.open_image.result c.open_image.ensures)
