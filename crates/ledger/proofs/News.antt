-- The record and the verdicts of a new pack.
use Rattle.std.proofs.Common.{◌≡◌, ℕ, zero, suc, ◌+◌, ◌-◌, ◌<◌, ◌≤◌, Bool, true, false, cond, ◌⊎◌, List, [], ◌∷◌, map, length, get_or, is_ok, Ok, Err, filter, Result, sym, refl, ap, ◌∙◌, subst, inl, inr, ⊎_elim, arith}
use Rattle.std.specs.List.{range_with_len}
use Rattle.std.proofs.lemmas.Bool.{cases_eq, lt-ltb}
use Rattle.std.proofs.lemmas.List.FromFn.{length-map-range_with_len, get_or-map-range_with_len}
use Rattle.disk.specs.declared.refusal.Refusal.{Refusal}
use Rattle.disk.specs.Addresses.{page_named, real_address}
use Rattle.disk.specs.Labels.{free_label}
use Rattle.disk.specs.Media.{Page, Medium, label_at}
use Rattle.survey.specs.declared.table.Record.{Record}
use Rattle.survey.specs.declared.table.Totals.{Totals}
use Rattle.survey.specs.declared.table.Verdict.{Verdict}
use Rattle.survey.specs.declared.table.Verdict.TheVariants.{Reserved, Free, Chained}
use Rattle.survey.specs.Chains.{Naming}
use Rattle.survey.specs.Verdicts.{bare, filed, record_of, table_of, totals, counted}
use Rattle.survey.specs.Steps.{no_record}
use Rattle.survey.proofs.Following.{never, not_true}
use Rattle.ledger.specs.declared.kept.PackRecord.{PackRecord}
use Rattle.ledger.specs.Runs.{applied, whole}
use Rattle.ledger.specs.Plans.{Done}
use Rattle.ledger.specs.Formats.{directory_leader_label, directory_page_label, format_writes, format_plan, new_free, new_record}
use Rattle.ledger.specs.Mends.{ends_free, serial_if, largest_serial, pages_freed, mended_record}
use Rattle.ledger.specs.Ledgers.{ledger_of}
use Rattle.ledger.specs.States.{KeptState}
use Rattle.ledger.specs.Books.{Sized, AllReadable, opening}
use Rattle.ledger.specs.News.{NewPack, new_totals}
use Rattle.ledger.proofs.Running.{through_whole, length_applied}
use Rattle.ledger.proofs.Keeping.{largest_least}
use Rattle.ledger.proofs.Formatting.{Fresh, formatted}
use Rattle.ledger.proofs.Opening.{large, leader_of_1, leader_of_2, kept_state, opens}

largest_most : (rs : List Record) (b : ℕ) (d : Record) → ((p : ℕ) → p < length rs → serial_if (get_or rs p d).verdict (get_or rs p d).id ≤ b) → largest_serial rs ≤ b
largest_most [] b d h = omega arith
largest_most (r ∷ rs) b d h = let k = h 0 (omega arith) in let l = largest_most rs b d (λ p i. h (suc p) (omega arith)) in omega arith

all_kept : (t : ℕ → Bool) (a n : ℕ) → ((p : ℕ) → a ≤ p → p < a + n → t p ≡ true) → filter t (range_with_len a n) ≡ range_with_len a n
all_kept t a zero h = refl
all_kept t a (suc n) h = rw (h a (omega arith) (omega arith)) (ap (λ (xs : List ℕ). a ∷ xs) (all_kept t (a + 1) n (λ p i j. h p (omega arith) (omega arith))))

many_free : ℕ → Totals
many_free n = record { reserved = 0; free = n; chained = 0; stray = 0; aside = 0 }

all_free : (r : ℕ → Record) (a n : ℕ) → ((p : ℕ) → a ≤ p → p < a + n → (r p).verdict ≡ Free) → totals (map r (range_with_len a n)) ≡ many_free n
unfolding many_free
all_free r a zero h = refl
all_free r a (suc n) h =
    ap (λ (v : Verdict). counted v (totals (map r (range_with_len (a + 1) n)))) (h a (omega arith) (omega arith))
    ∙ (ap (counted Free) (all_free r (a + 1) n (λ p i j. h p (omega arith) (omega arith))) ∙ ap many_free {x = n + 1} {y = suc n} (omega arith))

module _ (c : ℕ) (qs : List Page) (f : Fresh c qs) where
  abbrev name : Naming
  name = page_named c

  record_1 : record_of (page_named c) qs 1 ≡ filed Chained 1 directory_leader_label
  unfolding real_address
  record_1 = rw f.at_1 (rw (leader_of_1 c qs f))

  record_2 : record_of (page_named c) qs 2 ≡ filed Chained 1 directory_page_label
  unfolding real_address
  record_2 = rw f.at_2 (rw (leader_of_2 c qs f))

  record_3 : (p : ℕ) → 3 ≤ p → p < length qs → record_of (page_named c) qs p ≡ bare Free
  record_3 p h i = let a : 0 < p = omega arith in rw (lt-ltb 0 p a, f.free p h i)

  small : (p : ℕ) → p < length qs → serial_if (record_of (page_named c) qs p).verdict (record_of (page_named c) qs p).id ≤ 1
  small p h = go (cases_eq p 0) (cases_eq p 1) (cases_eq p 2)
    where
      at : (r : Record) → record_of (page_named c) qs p ≡ r → serial_if r.verdict r.id ≤ 1 → serial_if (record_of (page_named c) qs p).verdict (record_of (page_named c) qs p).id ≤ 1
      at r e k = let z = ap (λ (x : Record). serial_if x.verdict x.id) e in omega arith

      go : (p ≡ 0) ⊎ (p ≡ 0 → ⊥) → (p ≡ 1) ⊎ (p ≡ 1 → ⊥) → (p ≡ 2) ⊎ (p ≡ 2 → ⊥) → serial_if (record_of (page_named c) qs p).verdict (record_of (page_named c) qs p).id ≤ 1
      go (inl e) u v = at (bare Reserved) (ap (record_of (page_named c) qs) e) (omega arith)
      go (inr z) (inl e) v = at (filed Chained 1 directory_leader_label) (ap (record_of (page_named c) qs) e ∙ record_1) (omega arith)
      go (inr z) (inr y) (inl e) = at (filed Chained 1 directory_page_label) (ap (record_of (page_named c) qs) e ∙ record_2) (omega arith)
      go (inr z) (inr y) (inr x) = at (bare Free) (record_3 p (omega arith) h) (omega arith)

  highest_1 : largest_serial (table_of (page_named c) qs) ≡ 1
  unfolding table_of
  highest_1 =
      let a = large c qs f in
      let r = record_of (page_named c) qs in
      let l = length-map-range_with_len r 0 (length qs) in
      let at = λ (p : ℕ) (h : p < length qs). get_or-map-range_with_len r 0 (length qs) p p no_record h (omega arith) in
      let most : largest_serial (table_of (page_named c) qs) ≤ 1 = largest_most (table_of (page_named c) qs) 1 no_record (λ p h. let e : get_or (map r (range_with_len 0 (length qs))) p no_record ≡ r p = at p (omega arith) in let z = ap (λ (x : Record). serial_if x.verdict x.id) e in let s = small p (omega arith) in omega arith) in
      let e : get_or (map r (range_with_len 0 (length qs))) 1 no_record ≡ filed Chained 1 directory_leader_label = at 1 (omega arith) ∙ record_1 in
      let z : serial_if (get_or (map r (range_with_len 0 (length qs))) 1 no_record).verdict (get_or (map r (range_with_len 0 (length qs))) 1 no_record).id ≡ 1 = ap (λ (x : Record). serial_if x.verdict x.id) e in
      let least = largest_least (table_of (page_named c) qs) 1 no_record (omega arith) in
      omega arith

  freed_3 : pages_freed (page_named c) qs ≡ new_free (length qs)
  freed_3 =
      let a = large c qs f in
      let t = λ (p : ℕ). ends_free (record_of (page_named c) qs p).verdict in
      let k : length qs - 1 ≡ suc (suc (length qs - 3)) = omega arith in
      let f1 : t 1 ≡ false = ap (λ (x : Record). ends_free x.verdict) record_1 in
      let f2 : t 2 ≡ false = ap (λ (x : Record). ends_free x.verdict) record_2 in
      ap (λ (n : ℕ). filter t (range_with_len 1 n)) k ∙ (ap (λ (b : Bool). cond b (1 ∷ filter t (range_with_len 2 (suc (length qs - 3)))) (filter t (range_with_len 2 (suc (length qs - 3))))) f1
      ∙ (ap (λ (b : Bool). cond b (2 ∷ filter t (range_with_len 3 (length qs - 3))) (filter t (range_with_len 3 (length qs - 3)))) f2
      ∙ all_kept t 3 (length qs - 3) (λ p i j. ap (λ (x : Record). ends_free x.verdict) (record_3 p i (omega arith)))))

  pub record_same : mended_record (page_named c) qs ≡ new_record (length qs)
  unfolding mended_record
  record_same = rw (highest_1, freed_3)

  pub all_read : AllReadable qs
  all_read p h i e = ⊎_elim (λ (s : p ≡ 1). never (label_at qs p) directory_leader_label e (ap (label_at qs) s ∙ f.at_1))
      (λ (s : p ≡ 1 → ⊥). ⊎_elim (λ (t : p ≡ 2). never (label_at qs p) directory_page_label e (ap (label_at qs) t ∙ f.at_2)) (λ (t : p ≡ 2 → ⊥). never (label_at qs p) free_label e (f.free p (omega arith) i)) (cases_eq p 2)) (cases_eq p 1)

  pub two_chained : totals (table_of (page_named c) qs) ≡ new_totals (length qs)
  unfolding table_of many_free
  two_chained =
      let a = large c qs f in
      let r = record_of (page_named c) qs in
      let k : length qs ≡ suc (suc (suc (length qs - 3))) = omega arith in
      let free : totals (map r (range_with_len 3 (length qs - 3))) ≡ many_free (length qs - 3) = all_free r 3 (length qs - 3) (λ p i j. ap (λ (x : Record). x.verdict) (record_3 p i (omega arith))) in
      ap (λ (n : ℕ). totals (map r (range_with_len 0 n))) k
      ∙ (ap (λ (v : Verdict). counted Reserved (counted v (counted (r 2).verdict (totals (map r (range_with_len 3 (length qs - 3))))))) (ap (λ (x : Record). x.verdict) record_1)
      ∙ (ap (λ (v : Verdict). counted Reserved (counted Chained (counted v (totals (map r (range_with_len 3 (length qs - 3))))))) (ap (λ (x : Record). x.verdict) record_2)
      ∙ ap (λ (t : Totals). counted Reserved (counted Chained (counted Chained t))) free))

-- A drive after a format that went through.
pub new_pack : (m : Medium) → Sized m → NewPack (whole (format_writes (length m.pages)) m) (new_record (length m.pages))
new_pack m s =
    let f = formatted m.cylinders m.pages s.least s.most s.pages in
    let n = length_applied (format_writes (length m.pages)) m.pages in
    let qs = applied (format_writes (length m.pages)) m.pages in
    record {
      kept = subst (λ (x : ℕ). KeptState (page_named m.cylinders) real_address qs (new_record x)) n (kept_state m.cylinders qs f);
      readable = all_read m.cylinders qs f;
      as_mended = ap new_record (sym n) ∙ sym (record_same m.cylinders qs f);
      verdicts = two_chained m.cylinders qs f;
      ledger = subst (λ (x : ℕ). ledger_of (page_named m.cylinders) qs (new_record x) ≡ opening (length qs)) n (opens m.cylinders qs f);
    }

pub new_from : (m : Medium) (k : PackRecord) (r : Result (Unit {0}) Refusal) (t : Medium) (l : PackRecord) → Sized m → Done (format_plan (length m.pages)) m k r t l → is_ok r ≡ true → NewPack t l
new_from m k (Ok a) t l s d o =
    subst (λ (x : Medium). NewPack x l) (sym (through_whole (format_writes (length m.pages)) m t d.1.0))
    (subst (λ (x : PackRecord). NewPack (whole (format_writes (length m.pages)) m) x) (sym d.1.1) (new_pack m s))
new_from m k (Err e) t l s d o = not_true false refl o
