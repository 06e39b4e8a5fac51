-- What a survey has found, and the record that is made of it.
use Rattle.std.proofs.Common.{◌≡◌, ℕ, zero, suc, ◌+◌, ◌-◌, ◌<◌, ◌≤◌, Bool, true, false, cond, ltb, List, ◌∷◌, ◌++◌, length, get_or, take, drop, replicate, Ok, Err, filter, sym, refl, ap, ◌∙◌, subst, arith}
use Rattle.std.specs.List.{range_with_len}
use Rattle.std.proofs.lemmas.Bool.{le-ltb, ltb-false}
use Rattle.std.proofs.lemmas.List.{take-append-le, take_all, drop_at}
use Rattle.disk.specs.declared.refusal.Reason.TheVariants.{TooSmall, Rivals}
use Rattle.disk.specs.declared.refusal.Place.TheVariants.{Pack}
use Rattle.disk.specs.Refusals.{refusal, refusal_of_two}
use Rattle.disk.specs.Media.{Page}
use Rattle.bits.specs.declared.BitTable.{BitTable}
use Rattle.bits.specs.Bits.{free_all, none_free}
use Rattle.survey.specs.declared.table.Record.{Record}
use Rattle.survey.specs.declared.table.Totals.{Totals}
use Rattle.survey.specs.Chains.{Naming, rivalled, rival_of}
use Rattle.survey.specs.Verdicts.{record_of, table_of, totals, found, cleared, survey_answer, survey_table}
use Rattle.survey.specs.Steps.{no_record}
use Rattle.survey.proofs.Finding.{length_table, at_table}
use Rattle.survey.proofs.Counting.{cleared_is}
use Rattle.ledger.specs.Mends.{ends_free, largest_serial, pages_freed, mended_record}
use Rattle.pack.specs.Linking.{Surveyed, freed_in}

-- A survey that was answered has found no rivals.
pub record Answered (name : Naming) (ps : List Page) (a : Totals) : Type 0 where
  pub none : rivalled ps ≡ 0
  pub is : a ≡ totals (table_of name ps)

pub answered : (name : Naming) (ps : List Page) (room : ℕ) (a : Totals) → length ps ≤ room → Ok a ≡ survey_answer name ps room → Answered name ps a
answered name ps room a h e = go (ltb 0 (rivalled ps)) refl (e ∙ ap (λ (b : Bool). cond b (Err (refusal TooSmall Pack 0)) (found name ps (rivalled ps))) (le-ltb room (length ps) h))
  where
    go : (b : Bool) → ltb 0 (rivalled ps) ≡ b → Ok a ≡ cond b (Err (refusal_of_two Rivals Pack (rivalled ps) (rival_of ps (rivalled ps)))) (Ok (totals (table_of name ps))) → Answered name ps a
    go true k f = cc
    go false k f = record { none = (let z = ltb-false 0 (rivalled ps) k in omega arith); is = cc }

-- Its table.
pub table_is : (name : Naming) (ps : List Page) (ts : List Record) → length ps ≤ length ts → rivalled ps ≡ 0 → survey_table name ps ts ≡ table_of name ps ++ drop (length ps) ts
table_is name ps ts h none = rw (le-ltb (length ts) (length ps) h, none)

module _ (name : Naming) (ps : List Page) (ts vs : List Record) (h : length ps ≤ length ts) (none : rivalled ps ≡ 0) (e : vs ≡ survey_table name ps ts) where
  is : vs ≡ table_of name ps ++ drop (length ps) ts
  is = e ∙ table_is name ps ts h none

  front : take (length ps) vs ≡ table_of name ps
  front =
      let long = length_table name ps in
      ap (take (length ps)) is ∙ (take-append-le (length ps) (table_of name ps) (drop (length ps) ts) (omega arith) ∙ take_all (length ps) (table_of name ps) (omega arith))

  pub surveyed : (n : ℕ) → n ≡ length ps → n ≤ 9744 → Surveyed name ps (take n vs)
  surveyed n size few = subst (λ (k : ℕ). Surveyed name ps (take k vs)) (sym size) (subst (Surveyed name ps) (sym front) (record { size = length_table name ps; few = omega arith; filled = at_table name ps; none = none }))

  pub cleared_again : length ps ≤ length vs → cleared (length ps) vs ≡ cleared (length ps) ts
  cleared_again k =
      cleared_is (length ps) vs k ∙ (ap (λ (us : List Record). replicate (length ps) no_record ++ us) (ap (drop (length ps)) is ∙ drop_at (table_of name ps) (drop (length ps) ts) (length ps) (length_table name ps))
      ∙ sym (cleared_is (length ps) ts h))

  -- What a test keeps of page numbers, by a table of them.
  kept_same : (t u : ℕ → Bool) (a n : ℕ) → ((x : ℕ) → x < a + n → t x ≡ u x) → filter t (range_with_len a n) ≡ filter u (range_with_len a n)
  kept_same t u a zero k = refl
  kept_same t u a (suc n) k = ap (λ (b : Bool). cond b (a ∷ filter t (range_with_len (a + 1) n)) (filter t (range_with_len (a + 1) n))) (k a (omega arith)) ∙ ap (λ (xs : List ℕ). cond (u a) (a ∷ xs) xs) (kept_same t u (a + 1) n (λ x l. k x (omega arith)))

  -- Page 0 is reserved, so it does not end free.
  above : (n : ℕ) → filter (λ p. ends_free (record_of name ps p).verdict) (range_with_len 0 n) ≡ filter (λ p. ends_free (record_of name ps p).verdict) (range_with_len 1 (n - 1))
  above zero = refl
  above (suc n) = let k : suc n - 1 ≡ n = omega arith in rw k

  freed_same : freed_in (table_of name ps) (length (table_of name ps)) ≡ pages_freed name ps
  freed_same = rw length_table (kept_same (λ p. ends_free (get_or (table_of name ps) p no_record).verdict) (λ p. ends_free (record_of name ps p).verdict) 0 (length ps) (λ x l. ap (λ (r : Record). ends_free r.verdict) (at_table name ps x (omega arith))) ∙ above (length ps))

  pub record_is : (fs : List Record) (highest : ℕ) (bits : BitTable) → fs ≡ take (length ps) vs → highest ≡ largest_serial fs → bits.words ≡ free_all (freed_in fs (length fs)) none_free → record { ready = true; highest = highest; bits = bits } ≡ mended_record name ps
  unfolding mended_record
  record_is fs highest bits k a b =
      let f : fs ≡ table_of name ps = k ∙ front in
      let x : highest ≡ largest_serial (table_of name ps) = a ∙ ap largest_serial f in
      let y : bits.words ≡ free_all (pages_freed name ps) none_free = rw (f, freed_same) at b in
      ap (λ (n : ℕ). record { ready = true; highest = n; bits = bits }) x ∙ ap (λ (ws : List ℕ). record { ready = true; highest = largest_serial (table_of name ps); bits = record { words = ws } }) y
