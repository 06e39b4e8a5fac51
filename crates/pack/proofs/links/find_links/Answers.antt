use Rattle.std.proofs.Common.{◌≡◌, ℕ, ◌+◌, ◌<◌, List, length, get_or, replicate, sym, refl, ap, ◌∙◌, subst, arith, rules}
use Rattle.disk.specs.Addresses.{page_named}
use Rattle.disk.specs.Media.{Medium}
use Rattle.survey.specs.Chains.{Naming, follower}
use Rattle.survey.specs.Steps.{no_record}
use Rattle.ledger.specs.Mends.{is_chained}
use Rattle.pack.specs.declared.links.Links.{Links}
use Rattle.pack.specs.Linking.{no_links, noted, Noted}
use Rattle.pack.proofs.Noting.{says_chained, noted_none, noted_skip, noted_more, noted_all}
use Rattle.pack.proofs.links.find_links.Goals as goal
use Rattle.pack.proofs.links.find_links.Goals.{then-eq, else-eq}

pub loop-page-init : goal.loop-page-init
loop-page-init g c =
    let m : Medium = g.R.Reader.medium c.args.reader.now in
    let none : c.default-links.result ≡ no_links = search rules in
    record {
      same = refl;
      noted = subst (λ (l : Links). Noted (page_named m.cylinders) m.pages 0 (replicate 9744 l)) (sym none) (noted_none (page_named m.cylinders) m.pages c.requires.surveyed.few);
    }

pub overflow_cast-page : goal.overflow_cast-page
overflow_cast-page g c = omega (arith, c.requires.surveyed.size, c.requires.surveyed.few)

pub note-requires : goal.note-requires
note-requires g c = record { inside = omega (arith, c.requires.surveyed.size, ap (λ (m : Medium). length m.pages) c.loop-page.invariant.same) }

pub loop-page-preserved : goal.loop-page-preserved
loop-page-preserved g c =
    let m : Medium = g.R.Reader.medium c.args.reader.now in
    let name : Naming = page_named m.cylinders in
    let i : ℕ = c.loop-page.page in
    let ls : List Links = c.loop-page.links in
    let inside : i < length m.pages = omega (arith, c.requires.surveyed.size) in
    let e : c.eq.result ≡ is_chained name m.pages i = says_chained name m.pages i (get_or c.args.table.now i no_record) c.eq.result (c.requires.surveyed.filled i inside) (λ z. search rules) (λ z. search rules) in
    elim c.if-eq.branch [
      | then-eq w ↦ record {
        same = ap g.R.Reader.medium w.reader-is ∙ (w.note.ensures.same ∙ c.loop-page.invariant.same);
        noted = subst (λ (ms : List Links). Noted name m.pages (i + 1) ms) (sym w.links-is)
            (noted_more name m.pages i ls w.note.new.links c.requires.surveyed.none inside (sym e ∙ w.if-eq.true)
            (w.note.ensures.noted ∙ ap (λ (x : Medium). noted (follower (page_named x.cylinders) x.pages i) i ls) c.loop-page.invariant.same) c.loop-page.invariant.noted);
      }
      | else-eq w ↦ record {
        same = ap g.R.Reader.medium w.reader-is ∙ c.loop-page.invariant.same;
        noted = subst (λ (ms : List Links). Noted name m.pages (i + 1) ms) (sym w.links-is) (noted_skip name m.pages i ls (sym e ∙ w.if-eq.false) c.loop-page.invariant.noted);
      }
    ]

pub returns-clause-found : goal.returns-clause-found
returns-clause-found g c =
    noted_all (page_named (g.R.Reader.medium c.args.reader.now).cylinders) (g.R.Reader.medium c.args.reader.now).pages c.loop-page.page c.loop-page.links (omega (arith, c.requires.surveyed.size)) c.loop-page.invariant.noted
