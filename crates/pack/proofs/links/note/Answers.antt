use Rattle.std.proofs.Common.{◌≡◌, ℕ, List, Some, ap}
use Rattle.disk.specs.declared.label.Label.{Label}
use Rattle.disk.specs.Addresses.{page_named, real_address}
use Rattle.disk.specs.Media.{Page, Medium, label_at}
use Rattle.survey.specs.Chains.{Naming, kept_if, points, joins, follower}
use Rattle.pack.proofs.links.note.Goals as goal

follower_is : (name : Naming) (ps qs : List Page) (p y : ℕ) (l : Label) → Some l ≡ label_at ps p → qs ≡ ps → kept_if (λ q. joins (Some l) (label_at qs q)) (points name (Some l)) ≡ Some y → follower name ps p ≡ Some y
follower_is name ps qs p y l e s k = rw (← e, ← s) k

pub returns-clause-noted : goal.returns-clause-noted
returns-clause-noted g c =
    let m : Medium = g.R.Reader.medium c.args.reader.now in
    let p : ℕ = c.args.at.page in
    let y : ℕ = c.in-Some-next_link.link.page.page in
    let k : c.cylinders-cylinders.result.count ≡ m.cylinders = c.cylinders-cylinders.ensures.count in
    let f : follower (page_named m.cylinders) m.pages p ≡ Some y =
    follower_is (page_named m.cylinders) m.pages (g.R.Reader.medium c.read_label.new.self).pages p y c.in-Some.label c.in-Some.ensures.answer (ap (λ (x : Medium). x.pages) c.read_label.ensures.same)
    (rw k at c.in-Some-next_link.ensures.answer.0) in
    let a : c.address_of.result ≡ record { word = real_address y } = ap (λ (w : ℕ). record { word = w }) c.address_of.ensures in
    let b : c.address_of-2.result ≡ record { word = real_address p } = ap (λ (w : ℕ). record { word = w }) c.address_of-2.ensures in
    rw (f, a, b)
