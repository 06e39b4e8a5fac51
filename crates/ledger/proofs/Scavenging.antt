-- A scavenge by its plan: what it comes to on every drive.
use Rattle.std.proofs.Common.{◌≡◌, ℕ, zero, suc, ◌+◌, ◌-◌, ◌<◌, ◌≤◌, Bool, true, false, cond, ltb, ◌⊎◌, List, [], ◌∷◌, length, is_ok, Some, None, Ok, Err, Option, Result, sym, refl, ap, subst, inl, inr, ⊎_elim, arith}
use Rattle.std.specs.List.{range_with_len, AllByRecursion}
use Rattle.std.proofs.lemmas.Bool.{lt-ltb, le-ltb, ltb-true}
use Rattle.std.proofs.ByRecursion.{All-append}
use Rattle.disk.specs.declared.label.Label.{Label}
use Rattle.disk.specs.declared.refusal.Refusal.{Refusal}
use Rattle.disk.specs.declared.refusal.Reason.TheVariants.{TooSmall, Rivals}
use Rattle.disk.specs.declared.refusal.Place.TheVariants.{Pack}
use Rattle.disk.specs.Refusals.{refusal, refusal_of_two}
use Rattle.disk.specs.Addresses.{page_named, real_address, Conversion}
use Rattle.disk.specs.Labels.{words_of}
use Rattle.disk.specs.Media.{Page, Medium, Write, label_at, label_write, spun_up}
use Rattle.survey.specs.declared.table.Totals.{Totals}
use Rattle.survey.specs.Chains.{Naming, rivalled, rival_of}
use Rattle.survey.specs.Verdicts.{table_of, totals}
use Rattle.survey.proofs.Following.{not_true}
use Rattle.ledger.specs.declared.kept.PackRecord.{PackRecord}
use Rattle.ledger.specs.Runs.{Inside, applied, whole}
use Rattle.ledger.specs.Plans.{refuses, writes, unready, Done, IsPlanned}
use Rattle.ledger.specs.Mends.{same_words, relabelling, mended_label, mend_at, gathered, mend_writes, mended_record}
use Rattle.ledger.specs.Books.{Sized}
use Rattle.ledger.specs.Scavenges.{Mended, Scavenged, ScavengeValue, ThroughOrOff, ThenMended, StillThere, NothingLostOnTheWay}
use Rattle.ledger.proofs.Running.{through_whole, stopped_off}
use Rattle.ledger.proofs.Planning.{planned}
use Rattle.ledger.proofs.Mending.{Names, Between}
use Rattle.ledger.proofs.Salvage.{rivals_kept}
use Rattle.ledger.proofs.Restoring.{all_mended, mended_between}
use Rattle.ledger.proofs.Interrupting.{stopped_between}
use Rattle.ledger.proofs.Keeping.{same_files, all_kept}

-- All writes of a scavenge are to pages of the pack.
relabelling_inside : (n p : ℕ) (o q : Option Label) → p < n → AllByRecursion (λ w. w.page < n) (relabelling p o q)
relabelling_inside n p None q h = tt
relabelling_inside n p (Some l) None h = tt
relabelling_inside n p (Some l) (Some m) h = go (same_words (words_of l) (words_of m))
  where
    go : (b : Bool) → AllByRecursion (λ w. w.page < n) (cond b [] (label_write p m ∷ []))
    go true = tt
    go false = (h, tt)

gathered_inside : (f : ℕ → List Write) (n a k : ℕ) → ((p : ℕ) → p < n → AllByRecursion (λ w. w.page < n) (f p)) → a + k ≤ n → AllByRecursion (λ w. w.page < n) (gathered f (range_with_len a k))
gathered_inside f n a zero h l = tt
gathered_inside f n a (suc k) h l = All-append (λ w. w.page < n) (f a) (gathered f (range_with_len (a + 1) k)) (h a (omega arith)) (gathered_inside f n (a + 1) k h (omega arith))

pub mends_inside : (name : Naming) (real : ℕ → ℕ) (m : Medium) → 0 < length m.pages → Inside (mend_writes name real m.pages) m
unfolding mend_writes mend_at
mends_inside name real m h =
    gathered_inside (mend_at name real m.pages) (length m.pages) 1 (length m.pages - 1) (λ p k. relabelling_inside (length m.pages) p (label_at m.pages p) (mended_label name real m.pages p) k) (omega arith)

pub names_of : (m : Medium) → Sized m → Conversion m.cylinders → Names (page_named m.cylinders) real_address (length m.pages)
names_of m f c = let a = f.least in let b = f.pages in record { nought = c.nought; there = λ p h. c.there p (omega arith); some_page = omega arith }

never_ok : {X : Type 0} {A : Type 0} (r : Result A Refusal) (e : Refusal) → r ≡ Err e → is_ok r ≡ true → X
never_ok r e h k = not_true (is_ok r) (ap is_ok h) k

module _ (m : Medium) (k : PackRecord) (room : ℕ) (f : Sized m) (conv : Conversion m.cylinders) where
  name : Naming
  name = page_named m.cylinders

  filled : 0 < length m.pages
  filled = let a = f.least in let b = f.pages in omega arith

  value_by : (b c : Bool) (r : Result Totals Refusal) (t : Medium) (l : PackRecord) (p : ℕ)
      → Done (cond b (refuses (refusal TooSmall Pack 0) k) (cond c (refuses (refusal_of_two Rivals Pack p (rival_of m.pages p)) (unready k)) (writes (mend_writes (page_named m.cylinders) real_address m.pages) (totals (table_of (page_named m.cylinders) m.pages)) (mended_record (page_named m.cylinders) m.pages)))) (cond b m (spun_up m)) k r t l
      → m.steady ≡ true
      → IsPlanned (cond b (refuses (refusal TooSmall Pack 0) k) (cond c (refuses (refusal_of_two Rivals Pack p (rival_of m.pages p)) (unready k)) (writes (mend_writes (page_named m.cylinders) real_address m.pages) (totals (table_of (page_named m.cylinders) m.pages)) (mended_record (page_named m.cylinders) m.pages)))) (cond b m (spun_up m)) r t l
  value_by true c r t l p d s = record { answer = d.0; medium = d.1.0; kept = d.1.1 }
  value_by false true r t l p d s = record { answer = d.0; medium = d.1.0; kept = d.1.1 }
  value_by false false r t l p d s =
      planned (writes (mend_writes (page_named m.cylinders) real_address m.pages) (totals (table_of (page_named m.cylinders) m.pages)) (mended_record (page_named m.cylinders) m.pages)) (spun_up m) k r t l d s refl
      (mends_inside (page_named m.cylinders) real_address (spun_up m) filled)

  pub scavenge_value : (r : Result Totals Refusal) (t : Medium) (l : PackRecord) → Scavenged m k room r t l → ScavengeValue m k room r t l
  scavenge_value r t l d s = value_by (ltb room (length m.pages)) (ltb 0 (rivalled m.pages)) r t l (rivalled m.pages) d s

  mended_by : (b c : Bool) (r : Result Totals Refusal) (t : Medium) (l : PackRecord) (p : ℕ) → ltb 0 (rivalled m.pages) ≡ c
      → Done (cond b (refuses (refusal TooSmall Pack 0) k) (cond c (refuses (refusal_of_two Rivals Pack p (rival_of m.pages p)) (unready k)) (writes (mend_writes (page_named m.cylinders) real_address m.pages) (totals (table_of (page_named m.cylinders) m.pages)) (mended_record (page_named m.cylinders) m.pages)))) (cond b m (spun_up m)) k r t l
      → ThenMended m r t l
  mended_by true c r t l p e d ok = never_ok r (refusal TooSmall Pack 0) d.0 ok
  mended_by false true r t l p e d ok = never_ok r (refusal_of_two Rivals Pack p (rival_of m.pages p)) d.0 ok
  mended_by false false (Err x) t l p e d ok = never_ok {A = Totals} (Err x) x refl ok
  mended_by false false (Ok a) t l p e d ok =
      let ws = mend_writes (page_named m.cylinders) real_address m.pages in
      let w : t ≡ whole ws (spun_up m) = through_whole ws (spun_up m) t d.1.0 in
      let pages : t.pages ≡ applied ws m.pages = ap (λ (x : Medium). x.pages) w in
      let most = f.most in
      let size = f.pages in
      subst (λ (ps : List Page). Mended (page_named m.cylinders) real_address m.pages ps l) (sym pages)
      (subst (λ (x : PackRecord). Mended (page_named m.cylinders) real_address m.pages (applied ws m.pages) x) (sym d.1.1)
      (all_kept (page_named m.cylinders) real_address m.pages (applied ws m.pages) (names_of m f conv) (all_mended (page_named m.cylinders) real_address m.pages) (nothing e) (omega arith)))
    where
      nothing : ltb 0 (rivalled m.pages) ≡ false → rivalled m.pages ≡ 0
      nothing h = ⊎_elim (λ (z : 0 < rivalled m.pages). not_true (ltb 0 (rivalled m.pages)) h (lt-ltb 0 (rivalled m.pages) z)) (λ (z : rivalled m.pages ≤ 0). omega arith) (Rattle.std.proofs.lemmas.Bool.cases_lt 0 (rivalled m.pages))

  pub then_mended : (r : Result Totals Refusal) (t : Medium) (l : PackRecord) → Scavenged m k room r t l → ThenMended m r t l
  then_mended r t l d = mended_by (ltb room (length m.pages)) (ltb 0 (rivalled m.pages)) r t l (rivalled m.pages) refl d

  through_by : (b c : Bool) (r : Result Totals Refusal) (t : Medium) (l : PackRecord) (p : ℕ) → b ≡ false → c ≡ false
      → Done (cond b (refuses (refusal TooSmall Pack 0) k) (cond c (refuses (refusal_of_two Rivals Pack p (rival_of m.pages p)) (unready k)) (writes (mend_writes (page_named m.cylinders) real_address m.pages) (totals (table_of (page_named m.cylinders) m.pages)) (mended_record (page_named m.cylinders) m.pages)))) (cond b m (spun_up m)) k r t l
      → (is_ok r ≡ true) ⊎ (t.on ≡ false)
  through_by true c r t l p e h d = not_true true e refl
  through_by false true r t l p e h d = not_true true h refl
  through_by false false (Ok a) t l p e h d = inl refl
  through_by false false (Err x) t l p e h d = inr (stopped_off (mend_writes (page_named m.cylinders) real_address m.pages) (spun_up m) x t refl (mends_inside (page_named m.cylinders) real_address (spun_up m) filled) d.0)

  pub through_or_off : (r : Result Totals Refusal) (t : Medium) (l : PackRecord) → Scavenged m k room r t l → ThroughOrOff m room r t
  through_or_off r t l d enough none = through_by (ltb room (length m.pages)) (ltb 0 (rivalled m.pages)) r t l (rivalled m.pages) (le-ltb room (length m.pages) enough) (ap (ltb 0) none) d

  -- However it ends.
  still : Between (page_named m.cylinders) real_address m.pages m.pages
  still = record { count = refl; words = λ p. refl; labels = λ p. inl refl }

  there_by : (t : Medium) → rivalled m.pages ≡ 0 → Between (page_named m.cylinders) real_address m.pages t.pages → StillThere (page_named m.cylinders) m.pages t.pages
  there_by t none w = record {
    same = same_files (page_named m.cylinders) real_address m.pages t.pages (names_of m f conv) w;
    no_rivals = rivals_kept (page_named m.cylinders) real_address m.pages t.pages (names_of m f conv) w none;
  }

  as_it_was : (t : Medium) → t.pages ≡ m.pages → Between (page_named m.cylinders) real_address m.pages t.pages
  as_it_was t e = subst (λ (ps : List Page). Between (page_named m.cylinders) real_address m.pages ps) (sym e) still

  there_still : (b c : Bool) (r : Result Totals Refusal) (t : Medium) (l : PackRecord) (p : ℕ)
      → Done (cond b (refuses (refusal TooSmall Pack 0) k) (cond c (refuses (refusal_of_two Rivals Pack p (rival_of m.pages p)) (unready k)) (writes (mend_writes (page_named m.cylinders) real_address m.pages) (totals (table_of (page_named m.cylinders) m.pages)) (mended_record (page_named m.cylinders) m.pages)))) (cond b m (spun_up m)) k r t l
      → Between (page_named m.cylinders) real_address m.pages t.pages
  there_still true c r t l p d = as_it_was t (ap (λ (x : Medium). x.pages) d.1.0)
  there_still false true r t l p d = as_it_was t (ap (λ (x : Medium). x.pages) d.1.0)
  there_still false false (Ok a) t l p d =
      let ws = mend_writes (page_named m.cylinders) real_address m.pages in
      subst (λ (ps : List Page). Between (page_named m.cylinders) real_address m.pages ps) (sym (ap (λ (x : Medium). x.pages) (through_whole ws (spun_up m) t d.1.0)))
      (mended_between (page_named m.cylinders) real_address m.pages (applied ws m.pages) (all_mended (page_named m.cylinders) real_address m.pages))
  there_still false false (Err x) t l p d = stopped_between (page_named m.cylinders) real_address (spun_up m) x t d.0

  pub nothing_lost : (r : Result Totals Refusal) (t : Medium) (l : PackRecord) → Scavenged m k room r t l → NothingLostOnTheWay m t
  nothing_lost r t l d none = there_by t none (there_still (ltb room (length m.pages)) (ltb 0 (rivalled m.pages)) r t l (rivalled m.pages) d)
