use Rattle.std.proofs.Common.{◌∙◌, Option, sym, subst}
use Rattle.disk.specs.declared.cylinders.Cylinders.{Cylinders}
use Rattle.image.specs.Images.{is_image, Found}
use Rattle.image.proofs.Tables.{image_is, no_shape, found_fine}
use Rattle.image.proofs.layout.measure.Goals as goal

pub returns-in_err-cylinders : goal.returns-in_err-cylinders
returns-in_err-cylinders c =
    let ws = c.args.words.now in
    subst (λ (o : Option Cylinders). Found (is_image ws) ws o) (sym c.from_residual.ensures) (no_shape ws c.in_err-cylinders.ensures)

pub returns : goal.returns
returns c =
    let ws = c.args.words.now in
    let s = c.in_ok-cylinders.ensures in
    found_fine ws c.are_marks_fine.result c.in_ok-cylinders.cylinders c.then_some.result (image_is ws c.pages-n.result c.are_marks_fine.result s.0 (c.pages-n.ensures ∙ s.1) c.are_marks_fine.ensures) s.1 c.then_some.ensures
