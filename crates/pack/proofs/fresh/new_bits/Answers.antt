use Rattle.std.proofs.Common.{◌≡◌, ℕ, suc, ◌+◌, ◌-◌, ltb, List, sym, ap, ◌∙◌, arith}
use Rattle.std.specs.List.{range_with_len}
use Rattle.std.proofs.lemmas.Bool.{cond-true, lt-ltb}
use Rattle.bits.specs.Bits.{free_all, freed, none_free}
use Rattle.pack.proofs.Freeing.{free_more}
use Rattle.pack.proofs.fresh.new_bits.Goals as goal

pub loop-page-init : goal.loop-page-init
unfolding free_all
loop-page-init c = c.none_free-bits.ensures

pub loop-page-preserved : goal.loop-page-preserved
loop-page-preserved c =
    let p : ℕ = c.loop-page.page in
    let ws = c.loop-page.bits.words in
    let s : suc (p - 3) ≡ (p + 1) - 3 = omega arith in
    c.free.ensures ∙ (cond-true (ltb p 9744) (freed ws p) ws (lt-ltb p 9744 (omega arith))
    ∙ (ap (λ (xs : List ℕ). freed xs p) c.loop-page.invariant ∙ (sym (free_more none_free 3 (p - 3) p (omega arith)) ∙ ap (λ (k : ℕ). free_all (range_with_len 3 k) none_free) s)))

pub returns : goal.returns
returns c = c.loop-page.invariant ∙ ap (λ (k : ℕ). free_all (range_with_len 3 k) none_free) (omega arith)
