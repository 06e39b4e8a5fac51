use Rattle.std.proofs.Common.{◌≡◌, ℕ, ◌+◌, ◌&&◌, ltb, true, false, List, Option, sym, ap, ◌∙◌, subst, ⊎_elim, arith, rules}
use Rattle.std.proofs.lemmas.Bool.{cases_Bool}
use Rattle.disk.specs.declared.address.PageAddress.{PageAddress}
use Rattle.disk.specs.declared.label.Label.{Label}
use Rattle.disk.specs.Media.{Page, Medium, label_at}
use Rattle.survey.specs.declared.table.Record.{Record}
use Rattle.survey.specs.declared.table.Verdict.TheVariants.{Chained}
use Rattle.survey.specs.Chains.{leads, is_leader}
use Rattle.survey.specs.Steps.{judged_at, first_record, Listed}
use Rattle.survey.proofs.Scanning.{scanned_more, listed_push, listed_skip, first_chained, first_led}
use Rattle.survey.proofs.scan.scan.Goals as goal
use Rattle.survey.proofs.scan.scan.Goals.{then-eq, else-eq}

pub loop-page-preserved : goal.loop-page-preserved
loop-page-preserved g c =
    let ps : List Page = (g.R.Reader.medium c.args.reader.now).pages in
    let p : ℕ = c.loop-page.page in
    let same = c.loop-page.invariant.0 in
    let listed = λ (ls : List PageAddress). Listed ps (p + 1) ls in
    let read : c.read_label.result ≡ label_at ps p = c.read_label.ensures.answer ∙ ap (λ (m : Medium). label_at m.pages p) same in
    let x : c.judge.result ≡ first_record ps p = c.judge.ensures ∙ ap (λ (o : Option Label). judged_at p o (ltb 0 p && leads o)) read in
    let v = ap (λ (r : Record). r.verdict) x in (
      c.read_label.ensures.same ∙ same,
      scanned_more ps p c.loop-page.table c.judge.result (omega arith) x c.loop-page.invariant.1,
      elim c.if-eq.branch [
        | then-eq w ↦
            let k : c.judge.result.verdict ≡ Chained = search rules in
            subst listed (sym (ap (λ v. v.items) w.leaders-is ∙ w.push.ensures.items)) (listed_push ps (record { page = p }) c.loop-page.leaders.items (first_led ps p (sym v ∙ k)) c.loop-page.invariant.2)
        | else-eq w ↦
            let k : c.judge.result.verdict ≡ Chained → ⊥ = search rules in
            subst listed (sym (ap (λ v. v.items) w.leaders-is)) (listed_skip ps p c.loop-page.leaders.items
            (⊎_elim (λ (e : is_leader ps p ≡ true). absurd (k (v ∙ first_chained ps p e))) (λ (e : is_leader ps p ≡ false). e) (cases_Bool (is_leader ps p))) c.loop-page.invariant.2)
      ],
    )
