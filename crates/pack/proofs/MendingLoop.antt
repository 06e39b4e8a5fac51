-- The loop that mends page after page.
use Rattle.std.proofs.Common.{◌≡◌, ℕ, zero, suc, ◌+◌, ◌-◌, ◌<◌, ◌≤◌, Bool, true, false, List, [], ◌++◌, length, get_or, Some, None, Option, ◌⊎◌, inl, inr, sym, refl, ap, ◌∙◌, subst, ⊎_elim, append_assoc, append-nil, arith}
use Rattle.std.specs.List.{range_with_len}
use Rattle.std.specs.Bool.{then_some}
use Rattle.std.proofs.lemmas.Bool.{cases_Bool, lt-ltb, cases_lt}
use Rattle.disk.specs.declared.label.Label.{Label}
use Rattle.disk.specs.declared.refusal.Refusal.{Refusal}
use Rattle.disk.specs.Addresses.{real_address}
use Rattle.disk.specs.Media.{Page, Medium, Write, label_at}
use Rattle.survey.specs.declared.table.Record.{Record}
use Rattle.survey.specs.declared.table.Verdict.TheVariants.{Reserved, Chained}
use Rattle.survey.specs.Chains.{Naming}
use Rattle.survey.specs.Verdicts.{record_of}
use Rattle.survey.specs.Steps.{no_record}
use Rattle.ledger.specs.Runs.{Through, Stopped}
use Rattle.ledger.specs.Mends.{is_chained, page_after, page_before, mended, mended_label, relabelling, mend_at, gathered, mend_writes}
use Rattle.ledger.proofs.Running.{through_then, stopped_then, stopped_early, through_whole}
use Rattle.ledger.proofs.Restoring.{gathered_more, prefix}
use Rattle.ledger.proofs.Keeping.{verdict_chained, chained_verdict}
use Rattle.pack.specs.declared.links.Links.{Links}
use Rattle.pack.specs.Linking.{Surveyed, links_at, LinksFound, mended_by}
use Rattle.pack.proofs.Noting.{above_0}

-- What is written on page p.
mended_so : (b : Bool) (k : Links) (x y : ℕ) (o : Option Label) → (b ≡ true → k.next.word ≡ x) → (b ≡ true → k.previous.word ≡ y) → mended_by (then_some b k) o ≡ mended b x y o
mended_so true k x y o h j = rw (h refl, j refl)
mended_so false k x y None h j = refl
mended_so false k x y (Some l) h j = refl

mend_so : (name : Naming) (ps : List Page) (p : ℕ) (ls : List Links) → 0 < p → p < length ps → LinksFound name ps ls → relabelling p (label_at ps p) (mended_by (then_some (is_chained name ps p) (links_at ls p)) (label_at ps p)) ≡ mend_at name real_address ps p
unfolding mend_at mended_label
mend_so name ps p ls h k f =
    ap (relabelling p (label_at ps p)) (mended_so (is_chained name ps p) (links_at ls p) (real_address (page_after name ps p)) (real_address (page_before name ps p)) (label_at ps p) (f.after p h k) (λ _. f.before p h)
    ∙ rw (lt-ltb 0 p h))

-- The page at hand is as it was when the pages below it are mended.
pub still : (name : Naming) (real : ℕ → ℕ) (m n : Medium) (i : ℕ) → 0 < i → Through (gathered (mend_at name real m.pages) (range_with_len 1 (i - 1))) m n → label_at n.pages i ≡ label_at m.pages i
still name real m n i h t =
    ap (λ (x : Medium). label_at x.pages i) (through_whole (gathered (mend_at name real m.pages) (range_with_len 1 (i - 1))) m n t)
    ∙ (prefix name real m.pages (i - 1)).left i (omega arith)

one_more : (name : Naming) (real : ℕ → ℕ) (ps : List Page) (i : ℕ) → 0 < i → gathered (mend_at name real ps) (range_with_len 1 ((i + 1) - 1)) ≡ gathered (mend_at name real ps) (range_with_len 1 (i - 1)) ++ mend_at name real ps i
one_more name real ps i h = let k : (i + 1) - 1 ≡ suc (i - 1) = omega arith in ap (λ (n : ℕ). gathered (mend_at name real ps) (range_with_len 1 n)) k ∙ gathered_more (mend_at name real ps) 1 (i - 1) i (omega arith)

pub mends_more : (name : Naming) (real : ℕ → ℕ) (m n t : Medium) (i : ℕ) → 0 < i → Through (gathered (mend_at name real m.pages) (range_with_len 1 (i - 1))) m n → Through (mend_at name real m.pages i) n t → Through (gathered (mend_at name real m.pages) (range_with_len 1 ((i + 1) - 1))) m t
mends_more name real m n t i h a b = subst (λ (ws : List Write). Through ws m t) (sym (one_more name real m.pages i h)) (through_then (gathered (mend_at name real m.pages) (range_with_len 1 (i - 1))) (mend_at name real m.pages i) m n t a b)

-- The rest of what is gathered.
gathered_rest : (f : ℕ → List Write) (a i n : ℕ) → i ≤ n → (zs : List Write) × (gathered f (range_with_len a n) ≡ gathered f (range_with_len a i) ++ zs)
gathered_rest f a i zero h = ([], let k : i ≡ 0 = omega arith in rw k)
gathered_rest f a i (suc n) h = ⊎_elim
    (λ (k : n < i). ([], (let e : suc n ≡ i = omega arith in ap (λ (x : ℕ). gathered f (range_with_len a x)) e) ∙ sym (append-nil (gathered f (range_with_len a i)))))
    (λ (k : i ≤ n). let r = gathered_rest f a i n k in (r.0 ++ f (a + n), gathered_more f a n (a + n) refl ∙ (ap (λ (ws : List Write). ws ++ f (a + n)) r.1 ∙ append_assoc (gathered f (range_with_len a i)) r.0 (f (a + n)))))
    (cases_lt n i)

pub mends_cut : (name : Naming) (real : ℕ → ℕ) (m n : Medium) (e : Refusal) (t : Medium) (i : ℕ) → 0 < i → i < length m.pages → Through (gathered (mend_at name real m.pages) (range_with_len 1 (i - 1))) m n → Stopped (mend_at name real m.pages i) n e t → Stopped (mend_writes name real m.pages) m e t
unfolding mend_writes
mends_cut name real m n e t i h k a b =
    let r = gathered_rest (mend_at name real m.pages) 1 ((i + 1) - 1) (length m.pages - 1) (omega arith) in
    let s : Stopped (gathered (mend_at name real m.pages) (range_with_len 1 ((i + 1) - 1))) m e t =
    subst (λ (ws : List Write). Stopped ws m e t) (sym (one_more name real m.pages i h)) (stopped_then (gathered (mend_at name real m.pages) (range_with_len 1 (i - 1))) (mend_at name real m.pages i) m n e t a b) in
    subst (λ (ws : List Write). Stopped ws m e t) (sym r.1) (stopped_early (gathered (mend_at name real m.pages) (range_with_len 1 ((i + 1) - 1))) r.0 m e t s)

pub mends_all : (name : Naming) (real : ℕ → ℕ) (m t : Medium) (i : ℕ) → i ≡ length m.pages → Through (gathered (mend_at name real m.pages) (range_with_len 1 (i - 1))) m t → Through (mend_writes name real m.pages) m t
unfolding mend_writes
mends_all name real m t i e h = subst (λ (n : ℕ). Through (gathered (mend_at name real m.pages) (range_with_len 1 (n - 1))) m t) e h

-- What is handed to a turn of the loop: links for a chained page, none for one that is to be free.
abbrev pub Turn : List Record → List Links → ℕ → Option Links → Type 0
Turn ts ls i o = (((get_or ts i no_record).verdict ≡ Chained) × (o ≡ Some (links_at ls i))) ⊎ (((get_or ts i no_record).verdict ≡ Reserved → ⊥) × ((get_or ts i no_record).verdict ≡ Chained → ⊥) × (o ≡ None))

above_reserved : (name : Naming) (ps : List Page) (i : ℕ) → ((record_of name ps i).verdict ≡ Reserved → ⊥) → 0 < i
above_reserved name ps zero e = absurd (e refl)
above_reserved name ps (suc i) e = omega arith

-- What it plans.
pub turn_plan : (name : Naming) (m n : Medium) (i : ℕ) (ts : List Record) (ls : List Links) (o : Option Links) → i < length m.pages → Through (gathered (mend_at name real_address m.pages) (range_with_len 1 (i - 1))) m n → Surveyed name m.pages ts → LinksFound name m.pages ls → Turn ts ls i o → (0 < i) × (relabelling i (label_at n.pages i) (mended_by o (label_at n.pages i)) ≡ mend_at name real_address m.pages i)
turn_plan name m n i ts ls o k t v f = go
  where
    same : (get_or ts i no_record).verdict ≡ (record_of name m.pages i).verdict
    same = ap (λ (r : Record). r.verdict) (v.filled i k)

    by : (b : Bool) → is_chained name m.pages i ≡ b → o ≡ then_some b (links_at ls i) → 0 < i → (0 < i) × (relabelling i (label_at n.pages i) (mended_by o (label_at n.pages i)) ≡ mend_at name real_address m.pages i)
    by b c e h = (h, rw (e ∙ ap (λ (x : Bool). then_some x (links_at ls i)) (sym c), still name real_address m n i h t) (mend_so name m.pages i ls h k f))

    go : Turn ts ls i o → (0 < i) × (relabelling i (label_at n.pages i) (mended_by o (label_at n.pages i)) ≡ mend_at name real_address m.pages i)
    go (inl w) = let c = verdict_chained name m.pages i (sym same ∙ w.0) in by true c w.1 (above_0 name m.pages i c)
    go (inr w) = ⊎_elim
        (λ (c : is_chained name m.pages i ≡ true). absurd (w.1 (same ∙ chained_verdict name m.pages i c)))
        (λ (c : is_chained name m.pages i ≡ false). by false c w.2 (above_reserved name m.pages i (λ e. w.0 (same ∙ e))))
        (cases_Bool (is_chained name m.pages i))
