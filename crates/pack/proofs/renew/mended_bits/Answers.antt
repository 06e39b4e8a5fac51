use Rattle.std.proofs.Common.{ℕ, ltb, List, sym, ap, ◌∙◌, arith}
use Rattle.std.proofs.lemmas.Bool.{cond-true, lt-ltb}
use Rattle.bits.specs.declared.BitTable.{BitTable}
use Rattle.bits.specs.Bits.{free_all, freed, none_free}
use Rattle.pack.proofs.Renewing.{freed_more, freed_left}
use Rattle.pack.proofs.renew.mended_bits.Goals as goal
use Rattle.pack.proofs.renew.mended_bits.Goals.{then-ends_free, else-ends_free}

pub loop-page-init : goal.loop-page-init
unfolding free_all
loop-page-init c = c.none_free-bits.ensures

pub loop-page-preserved : goal.loop-page-preserved
loop-page-preserved c =
    let ts = c.args.table.now in
    let p : ℕ = c.loop-page.page in
    let ws = c.loop-page.bits.words in
    elim c.if-ends_free.branch [
      | then-ends_free w ↦
          ap (λ (b : BitTable). b.words) w.bits-is ∙ (w.free.ensures ∙ (cond-true (ltb p 9744) (freed ws p) ws (lt-ltb p 9744 (omega arith))
          ∙ (ap (λ (xs : List ℕ). freed xs p) c.loop-page.invariant ∙ sym (freed_more ts none_free p (sym c.ends_free.ensures ∙ w.if-ends_free.true)))))
      | else-ends_free w ↦
          ap (λ (b : BitTable). b.words) w.bits-is ∙ (c.loop-page.invariant ∙ sym (freed_left ts none_free p (sym c.ends_free.ensures ∙ w.if-ends_free.false)))
    ]
