-- The record of a mended pack, made page after page.
use Rattle.std.proofs.Common.{◌≡◌, ℕ, ◌+◌, max, Bool, true, false, cond, List, [], ◌∷◌, ◌++◌, get_or, filter, fold, sym, refl, ap, ◌∙◌, ⊎_elim, arith}
use Rattle.std.specs.List.{range_with_len}
use Rattle.std.proofs.lemmas.Bool.{cases_Bool}
use Rattle.std.proofs.lemmas.List.{map-id}
use Rattle.std.proofs.lemmas.List.FromFn.{map-range_with_len_more}
use Rattle.std.proofs.lemmas.List.Elements.{filter-append}
use Rattle.bits.specs.Bits.{free_all, freed}
use Rattle.disk.specs.Labels.{serial_number}
use Rattle.survey.specs.declared.table.Record.{Record}
use Rattle.survey.specs.declared.table.Verdict.{Verdict}
use Rattle.survey.specs.declared.table.Verdict.TheVariants.{Reserved, Free, Chained, Stray, Aside}
use Rattle.survey.specs.Steps.{no_record}
use Rattle.ledger.specs.Mends.{serial_if, largest_serial, ends_free}
use Rattle.pack.specs.Linking.{freed_in}
use Rattle.pack.proofs.Freeing.{free_append}

-- One page more, and what the table says of it.
freed_step : (ts : List Record) (ws : List ℕ) (p : ℕ) → free_all (freed_in ts (p + 1)) ws ≡ free_all (filter (λ q. ends_free (get_or ts q no_record).verdict) (p ∷ [])) (free_all (freed_in ts p) ws)
freed_step ts ws p =
    let t = λ (q : ℕ). ends_free (get_or ts q no_record).verdict in
    let k : range_with_len 0 (p + 1) ≡ range_with_len 0 p ++ p ∷ [] = simp map-id at (map-range_with_len_more (λ x. x) 0 p p (omega arith)) in
    ap (λ (xs : List ℕ). free_all (filter t xs) ws) k ∙ (ap (λ (xs : List ℕ). free_all xs ws) (filter-append t (range_with_len 0 p) (p ∷ [])) ∙ free_append (filter t (range_with_len 0 p)) (filter t (p ∷ [])) ws)

pub freed_more : (ts : List Record) (ws : List ℕ) (p : ℕ) → ends_free (get_or ts p no_record).verdict ≡ true → free_all (freed_in ts (p + 1)) ws ≡ freed (free_all (freed_in ts p) ws) p
unfolding free_all
freed_more ts ws p e = freed_step ts ws p ∙ rw e

pub freed_left : (ts : List Record) (ws : List ℕ) (p : ℕ) → ends_free (get_or ts p no_record).verdict ≡ false → free_all (freed_in ts (p + 1)) ws ≡ free_all (freed_in ts p) ws
unfolding free_all
freed_left ts ws p e = freed_step ts ws p ∙ rw e

-- The verdict of a page in a chain.
abbrev pub chains : Verdict → Bool
chains Reserved = false
chains Free = false
chains Chained = true
chains Stray = false
chains Aside = false

pub says_chains : (v : Verdict) (b : Bool) → (b ≡ true → v ≡ Chained) → (v ≡ Chained → b ≡ true) → b ≡ chains v
says_chains v b h k = ⊎_elim
    (λ (e : b ≡ true). e ∙ sym (ap chains (h e)))
    (λ (e : b ≡ false). other v e (λ c. k c))
    (cases_Bool b)
  where
    other : (w : Verdict) → b ≡ false → (w ≡ Chained → b ≡ true) → b ≡ chains w
    other Reserved e f = e
    other Free e f = e
    other Chained e f = f refl
    other Stray e f = e
    other Aside e f = e

-- The largest serial number of the chained pages, taken from the left.
largest_from : (n : ℕ) (ts : List Record) → fold (λ a r. max a (serial_number r.id)) n (filter (λ r. chains r.verdict) ts) ≡ max n (largest_serial ts)
largest_from n [] = omega arith
largest_from n (t ∷ ts) = step t.verdict (λ k. largest_from k ts)
  where
    step : (v : Verdict) → ((k : ℕ) → fold (λ a r. max a (serial_number r.id)) k (filter (λ r. chains r.verdict) ts) ≡ max k (largest_serial ts)) → fold (λ a r. max a (serial_number r.id)) n (cond (chains v) (t ∷ filter (λ r. chains r.verdict) ts) (filter (λ r. chains r.verdict) ts)) ≡ max n (max (serial_if v t.id) (largest_serial ts))
    step Reserved more = more n ∙ omega arith
    step Free more = more n ∙ omega arith
    step Chained more = more (max n (serial_number t.id)) ∙ omega arith
    step Stray more = more n ∙ omega arith
    step Aside more = more n ∙ omega arith

pub largest_is : (ts : List Record) → fold (λ a r. max a (serial_number r.id)) 0 (filter (λ r. chains r.verdict) ts) ≡ largest_serial ts
largest_is ts = largest_from 0 ts ∙ omega arith
