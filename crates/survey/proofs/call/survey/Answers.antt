use Rattle.std.proofs.Common.{◌≡◌, ℕ, ◌*◌, ◌≤◌, List, length, replicate, Err, Result, ap, ◌∙◌, subst, arith, rules}
use Rattle.std.proofs.lemmas.List.{length-take-le}
use Rattle.disk.specs.declared.address.PageAddress.{PageAddress}
use Rattle.disk.specs.declared.refusal.Refusal.{Refusal}
use Rattle.disk.specs.declared.cylinders.Cylinders.{Cylinders}
use Rattle.disk.specs.Addresses.{page_named, real_address}
use Rattle.disk.specs.Media.{Page, Medium}
use Rattle.disk.proofs.Naming.{conversion}
use Rattle.survey.specs.declared.table.Totals.{Totals}
use Rattle.survey.specs.Chains.{rivalled}
use Rattle.survey.specs.Verdicts.{totals}
use Rattle.survey.specs.Steps.{no_record, pair_of, MarkedAll}
use Rattle.survey.specs.Moves.{MovesChangeNothing}
use Rattle.survey.proofs.Lawful.{survey_laws}
use Rattle.survey.proofs.Moving.{moves_change_nothing}
use Rattle.survey.proofs.Finding.{no_pair, pair_lowest, table_filled, answer_rivals, table_rivals, answer_found, table_found}
use Rattle.survey.proofs.call.survey.Goals as goal

-- The law of moves, on a pack of so many cylinders.
moves_of : (m : Medium) (k : Cylinders) → k.count ≡ m.cylinders → length m.pages ≡ 24 * k.count → MovesChangeNothing (page_named m.cylinders) real_address m.pages
moves_of m k e l = subst (λ (x : ℕ). MovesChangeNothing (page_named x) real_address m.pages) e (moves_change_nothing k.count m.pages (conversion k.count k.fits.1) l k.fits.0)

pub returns-then-table-n-clause-laws : goal.returns-then-table-n-clause-laws
returns-then-table-n-clause-laws g c = let m : Medium = g.R.Reader.medium c.args.reader.now in survey_laws (page_named m.cylinders) m.pages

pub returns-then-table-n-clause-moves : goal.returns-then-table-n-clause-moves
returns-then-table-n-clause-moves g c = moves_of (g.R.Reader.medium c.args.reader.now) c.cylinders.result c.cylinders.ensures.count c.cylinders.ensures.pages

pub returns-in-Some : goal.returns-in-Some
returns-in-Some g c =
    let m : Medium = g.R.Reader.medium c.args.reader.now in
    let ps : List Page = m.pages in
    let ts = c.scan-leaders.new.table in
    let room : length ps ≤ length c.args.table.now = omega arith in
    let n : c.pages-n.result ≡ length ps = omega arith in
    let cut = length-take-le c.pages-n.result c.args.table.now (omega arith) in
    let long : length ts ≡ length ps = omega arith in
    let low = pair_lowest ps ts c.scan-leaders.result.items c.scan-leaders.ensures.scanned c.scan-leaders.ensures.listed c.first_pair.result c.in-Some.one c.in-Some.two (c.first_pair.ensures ∙ ap (pair_of ts) c.as_slice.ensures.value) c.in-Some.is in
    let clear : c.fill.new.self ≡ replicate (length ts) c.bare.result = c.fill.ensures.after (λ y e. search rules) in
    let cleared : c.fill.new.self ≡ replicate (length ps) no_record = clear ∙ (ap (λ (k : ℕ). replicate k c.bare.result) long ∙ ap (replicate (length ps)) c.bare.ensures) in
    record {
      answer = ap {B = Result Totals Refusal} Err c.of_two.ensures ∙ answer_rivals (page_named m.cylinders) ps c.args.table.now room c.in-Some.one.page c.in-Some.two.page low;
      table = rw (cleared, n) (table_rivals (page_named m.cylinders) ps c.args.table.now room c.in-Some.one.page c.in-Some.two.page low);
      same = c.scan-leaders.ensures.same;
      laws = survey_laws (page_named m.cylinders) m.pages;
      moves = moves_of m c.cylinders.result c.cylinders.ensures.count c.cylinders.ensures.pages;
    }

pub walk_all-requires-clause-no_rivals : goal.walk_all-requires-clause-no_rivals
walk_all-requires-clause-no_rivals g c =
    let ts = c.scan-leaders.new.table in
    ap (λ (x : Medium). rivalled x.pages) c.scan-leaders.ensures.same
    ∙ no_pair (g.R.Reader.medium c.args.reader.now).pages ts c.scan-leaders.result.items c.scan-leaders.ensures.scanned c.scan-leaders.ensures.listed c.first_pair.result (c.first_pair.ensures ∙ ap (pair_of ts) c.as_slice.ensures.value) c.in_default.is

pub returns : goal.returns
returns g c =
    let m : Medium = g.R.Reader.medium c.args.reader.now in
    let ps : List Page = m.pages in
    let ts = c.scan-leaders.new.table in
    let ls = c.scan-leaders.result.items in
    let new = c.walk_all.new.table in
    let name = page_named m.cylinders in
    let same = c.scan-leaders.ensures.same in
    let room : length ps ≤ length c.args.table.now = omega arith in
    let n : c.pages-n.result ≡ length ps = omega arith in
    let none : rivalled ps ≡ 0 = no_pair ps ts ls c.scan-leaders.ensures.scanned c.scan-leaders.ensures.listed c.first_pair.result (c.first_pair.ensures ∙ ap (pair_of ts) c.as_slice.ensures.value) c.in_default.is in
    let marked : MarkedAll name ps ls ts new =
    subst (λ (x : Medium). MarkedAll (page_named x.cylinders) x.pages ls ts new) same (subst (λ (xs : List PageAddress). MarkedAll (page_named (g.R.Reader.medium c.scan-leaders.new.reader).cylinders) (g.R.Reader.medium c.scan-leaders.new.reader).pages xs ts new) c.as_slice-2.ensures.value c.walk_all.ensures.marked) in
    let cut = length-take-le c.pages-n.result c.args.table.now (omega arith) in
    let filled = table_filled ps ts ls c.scan-leaders.ensures.scanned c.scan-leaders.ensures.listed name new none marked (omega arith) in
    record {
      answer = answer_found name ps c.args.table.now room c.total.result none (c.total.ensures ∙ ap totals filled);
      table = rw (filled, n) (table_found name ps c.args.table.now room none);
      same = c.walk_all.ensures.same ∙ same;
      laws = survey_laws name ps;
      moves = moves_of m c.cylinders.result c.cylinders.ensures.count c.cylinders.ensures.pages;
    }
