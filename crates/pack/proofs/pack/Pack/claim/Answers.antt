use Rattle.std.proofs.Common.{◌≡◌, ℕ, true, cond, ltb, List, length, Some, sym, ap, ◌∙◌, arith}
use Rattle.disk.specs.Media.{Page, label_at}
use Rattle.bits.specs.Bits.{taken}
use Rattle.ledger.specs.declared.kept.PackRecord.{PackRecord}
use Rattle.ledger.specs.Searches.{searched, free_label_at}
use Rattle.pack.proofs.Claiming.{few, claimed_answer, claimed_record}
use Rattle.pack.proofs.pack.Pack.claim.Goals as goal

pub returns-then-has_free_label : goal.returns-then-has_free_label
returns-then-has_free_label g c =
    let ps : List Page = (g.D.Reader.medium c.args.self.now.drive).pages in
    let k : PackRecord = c.args.self.now.kept in
    let n : ℕ = length ps in
    let p : ℕ = c.in_ok-page.page.page in
    let e : Some p ≡ searched k c.args.start.page n = few k.bits.words c.args.start.page n c.pages-pages.result c.next_free-free.result c.in_ok-page.page (omega arith) (omega arith) c.in_ok-page.ensures.ok_part c.next_free-free.ensures in
    let f : free_label_at (label_at ps p) ≡ true = sym c.has_free_label.ensures.answer ∙ c.if-has_free_label.true in
    let l : PackRecord = c.has_free_label.new.self.kept in
    let w : c.take.new.self.words ≡ cond (ltb p 9744) (taken k.bits.words p) k.bits.words = c.take.ensures ∙ ap (λ (x : PackRecord). cond (ltb p 9744) (taken x.bits.words p) x.bits.words) c.has_free_label.ensures.kept in
    record {
      answer = claimed_answer ps k c.args.start.page n p e f;
      kept = ap (λ (x : PackRecord). record { ready = x.ready; highest = x.highest; bits = c.take.new.self }) c.has_free_label.ensures.kept ∙ claimed_record ps k c.args.start.page n p c.take.new.self.words e f (omega arith) w;
      same = c.has_free_label.ensures.same;
    }
