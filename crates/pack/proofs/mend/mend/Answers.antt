use Rattle.std.proofs.Common.{◌≡◌, ℕ, ◌<◌, List, length, inl, inr, subst, arith, rules}
use Rattle.disk.specs.Addresses.{page_named, real_address}
use Rattle.disk.specs.Media.{Medium, Write, label_at}
use Rattle.survey.specs.Chains.{Naming}
use Rattle.ledger.specs.Runs.{Through, Stopped}
use Rattle.ledger.specs.Mends.{mend_writes, relabelling, mend_at}
use Rattle.ledger.proofs.Running.{broke}
use Rattle.pack.specs.Linking.{mended_by}
use Rattle.pack.proofs.MendingLoop.{turn_plan, mends_more, mends_cut, mends_all}
use Rattle.pack.proofs.mend.mend.Given.{Over}
use Rattle.pack.proofs.mend.mend.Goals as goal
use Rattle.pack.proofs.mend.mend.Goals.{in-Chained, in-Free, After-mend_page}

-- What a turn plans, whether its write is refused or not.
abbrev Plan : (g : Over) → After-mend_page g → Type 0
Plan g c =
    let m : Medium = g.D.Reader.medium c.args.drive.now in
    let n : Medium = g.D.Reader.medium c.loop-page.drive in
    let i : ℕ = c.loop-page.page in
    (0 < i) × (i < length m.pages) × (relabelling i (label_at n.pages i) (mended_by c.match-record.chained (label_at n.pages i)) ≡ mend_at (page_named m.cylinders) real_address m.pages i)

plan : (g : Over) (c : After-mend_page g) → Plan g c
plan g c =
    let m : Medium = g.D.Reader.medium c.args.drive.now in
    let n : Medium = g.D.Reader.medium c.loop-page.drive in
    let inside : c.loop-page.page < length m.pages = omega (arith, c.requires.surveyed.size) in
    let p = turn_plan (page_named m.cylinders) m n c.loop-page.page c.args.table.now c.find_links-links.result c.match-record.chained inside c.loop-page.invariant c.requires.surveyed c.find_links-links.ensures.found
    (elim c.match-record.branch [ in-Chained w ↦ inl (search rules, w.chained-is) | in-Free w ↦ inr (search rules, search rules, w.chained-is) ]) in
    (p.0, inside, p.1)

pub returns-in_err-mend_page : goal.returns-in_err-mend_page
returns-in_err-mend_page g c =
    let m : Medium = g.D.Reader.medium c.args.drive.now in
    let n : Medium = g.D.Reader.medium c.loop-page.drive in
    let t : Medium = g.D.Reader.medium c.mend_page.new.drive in
    let name : Naming = page_named m.cylinders in
    let p = plan g c.before.before.before in
    broke (mend_writes name real_address m.pages) m c.from_residual.result c.in_err-mend_page.field-0.0 t c.from_residual.ensures.1
    (mends_cut name real_address m n c.in_err-mend_page.field-0.0 t c.loop-page.page p.0 p.1 c.loop-page.invariant (subst (λ (ws : List Write). Stopped ws n c.in_err-mend_page.field-0.0 t) p.2 c.in_err-mend_page.ensures))

pub loop-page-preserved : goal.loop-page-preserved
loop-page-preserved g c =
    let m : Medium = g.D.Reader.medium c.args.drive.now in
    let n : Medium = g.D.Reader.medium c.loop-page.drive in
    let t : Medium = g.D.Reader.medium c.mend_page.new.drive in
    let p = plan g c.before.before in
    mends_more (page_named m.cylinders) real_address m n t c.loop-page.page p.0 c.loop-page.invariant (subst (λ (ws : List Write). Through ws n t) p.2 c.in_ok-mend_page.ensures)

pub returns : goal.returns
returns g c =
    mends_all (page_named (g.D.Reader.medium c.args.drive.now).cylinders) real_address (g.D.Reader.medium c.args.drive.now) (g.D.Reader.medium c.loop-page.drive) c.loop-page.page (omega (arith, c.requires.surveyed.size)) c.loop-page.invariant
