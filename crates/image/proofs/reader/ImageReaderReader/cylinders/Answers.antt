use Rattle.std.proofs.Common.{◌*◌, sym, ap, ◌∙◌}
use Rattle.image.specs.Images.{is_image}
use Rattle.image.proofs.Tables.{image_shaped, length_pages, size_found}
use Rattle.image.proofs.reader.ImageReaderReader.cylinders.Goals as goal

pub returns : goal.returns
returns c =
    let ws = c.args.self.now.words.now in
    let s = size_found (is_image ws) ws c.args.self.now.opened c.cylinders_or_one.result c.args.self.now.kept c.cylinders_or_one.ensures in
    record { count = s; pages = length_pages (is_image ws) ws (image_shaped ws) ∙ ap (λ k. 24 * k) (sym s) }
