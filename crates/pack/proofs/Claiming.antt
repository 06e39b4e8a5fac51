-- A claim on the page that was found.
use Rattle.std.proofs.Common.{◌≡◌, ℕ, ◌<◌, ◌≤◌, min, true, cond, ltb, List, Some, Ok, Option, sym, ap, ◌∙◌, subst, arith}
use Rattle.std.proofs.lemmas.Bool.{cond-true, lt-ltb}
use Rattle.std.specs.Option.{option_map}
use Rattle.disk.specs.declared.address.PageAddress.{PageAddress}
use Rattle.disk.specs.Media.{Page, label_at}
use Rattle.bits.specs.Bits.{round_free, start_page, taken, SomeFree}
use Rattle.bits.proofs.Searches.{next_free_is}
use Rattle.ledger.specs.declared.kept.PackRecord.{PackRecord}
use Rattle.ledger.specs.Searches.{searched, free_label_at}
use Rattle.pack.specs.Claims.{claim_answer, claim_record}

-- A pack has at most 9,744 pages.
pub few : (ws : List ℕ) (start n m : ℕ) (o : Option PageAddress) (p : PageAddress) → m ≤ 9744 → m ≡ n → o ≡ Some p → option_map (λ a. a.page) o ≡ round_free ws (start_page start (min m 9744)) (min m 9744) → Some p.page ≡ round_free ws (start_page start n) n
few ws start n m o p h e k a =
    let j : min m 9744 ≡ n = omega arith in
    let b : Some p.page ≡ round_free ws (start_page start (min m 9744)) (min m 9744) = rw k at a in
    b ∙ ap (λ (x : ℕ). round_free ws (start_page start x) x) j

pub found_below : (k : PackRecord) (start n p : ℕ) → Some p ≡ searched k start n → p < n
found_below k start n p e = (subst (λ (o : Option ℕ). SomeFree k.bits.words n o) (sym e) (next_free_is k.bits.words start n)).below

pub claimed_answer : (ps : List Page) (k : PackRecord) (start n p : ℕ) → Some p ≡ searched k start n → free_label_at (label_at ps p) ≡ true → Ok p ≡ claim_answer ps (searched k start n)
claimed_answer ps k start n p e f = subst (λ (o : Option ℕ). Ok p ≡ claim_answer ps o) e (rw f)

pub claimed_record : (ps : List Page) (k : PackRecord) (start n p : ℕ) (ws : List ℕ) → Some p ≡ searched k start n → free_label_at (label_at ps p) ≡ true → n ≤ 9744 → ws ≡ cond (ltb p 9744) (taken k.bits.words p) k.bits.words → record { ready = k.ready; highest = k.highest; bits = record { words = ws } } ≡ claim_record ps k (searched k start n)
claimed_record ps k start n p ws e f h w =
    let b = found_below k start n p e in
    subst (λ (o : Option ℕ). record { ready = k.ready; highest = k.highest; bits = record { words = ws } } ≡ claim_record ps k o) e
    (rw f (ap (λ (xs : List ℕ). record { ready = k.ready; highest = k.highest; bits = record { words = xs } }) (w ∙ cond-true (ltb p 9744) (taken k.bits.words p) k.bits.words (lt-ltb p 9744 (omega arith)))))
