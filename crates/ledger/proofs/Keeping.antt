-- A mended pack is in order, its record fits it, and it holds the same files.
use Rattle.std.proofs.Common.{◌≡◌, ℕ, zero, suc, ◌+◌, ◌-◌, ◌*◌, ◌<◌, ◌≤◌, Bool, true, false, cond, ltb, ◌⊎◌, List, [], ◌∷◌, length, get_or, Some, None, filter, Option, sym, refl, ap, ◌∙◌, subst, inl, inr, ⊎_elim, add-one, arith}
use Rattle.std.specs.List.{range_with_len}
use Rattle.std.proofs.lemmas.Bool.{cases_Bool, cases_eq, cases_lt, lt-ltb, ltb-true, le-ltb}
use Rattle.std.proofs.lemmas.List.{get_or_past}
use Rattle.disk.specs.declared.label.Label.{Label}
use Rattle.disk.specs.Labels.{is_file, is_free, free_label, id_of, serial_number}
use Rattle.disk.specs.Media.{Page, label_at}
use Rattle.bits.specs.Bits.{page_bit, free_all, none_free}
use Rattle.bits.specs.Bits as bits_in
use Rattle.bits.proofs.Tables as tables
use Rattle.survey.specs.declared.table.Record.{Record}
use Rattle.survey.specs.declared.table.Verdict.{Verdict}
use Rattle.survey.specs.declared.table.Verdict.TheVariants.{Reserved, Free, Chained, Stray, Aside}
use Rattle.survey.specs.Chains.{Naming, is_leader, follower, chain, rest, pages_above, leader_of, rivalled}
use Rattle.survey.specs.Verdicts.{bare, filed, owned, record_of, table_of}
use Rattle.survey.specs.Laws.{In}
use Rattle.survey.proofs.Walks.{Links, links_at}
use Rattle.survey.proofs.Following.{never, not_true, links, leader_from, leader_is, has_label, follows, member, Member, file_not_free}
use Rattle.survey.specs.Steps.{no_record}
use Rattle.survey.proofs.Lawful as lawful
use Rattle.survey.proofs.Finding as finding
use Rattle.survey.proofs.Marking as marking
use Rattle.ledger.specs.Mends.{is_chained, page_after, page_before, page_or_none, relinked, mended_label, relabelling, mend_at, mend_writes, ends_free, serial_if, largest_serial, pages_freed, mended_record}
use Rattle.ledger.specs.States.{LinkedBothWays, InOrder, bit_for, KeptState}
use Rattle.ledger.specs.Scavenges.{Mended, SameFiles}
use Rattle.ledger.proofs.Mending.{Names, Between, mended_chained, mended_free, mended_none, mended_nought, chained_led, led_chained, chained_member, chains_kept, leaders_kept, chain_kept}
use Rattle.ledger.proofs.Salvage.{before_is, before_leader, chained_kept, after_kept, before_kept, rivals_kept, located_kept, files_kept, entries_kept}
use Rattle.ledger.proofs.Restoring.{gathered_none, AllMended, mended_between, relabelling_same}

-- Nothing to write where each page has the label that it is to have.
pub nothing_left : (name : Naming) (real : ℕ → ℕ) (ps : List Page) → ((p : ℕ) → mended_label name real ps p ≡ label_at ps p) → mend_writes name real ps ≡ []
unfolding mend_writes mend_at
nothing_left name real ps h = gathered_none (mend_at name real ps) 1 (length ps - 1) (λ p _ _. ap (relabelling p (label_at ps p)) (h p) ∙ relabelling_same p (label_at ps p))

-- The last page of a walk has none behind it.
links_end : (f : ℕ → Option ℕ) (x : ℕ) (ys : List ℕ) → Links f x ys → (k : ℕ) → suc k ≡ length (x ∷ ys) → f (get_or (x ∷ ys) k 0) ≡ None
links_end f x [] l zero e = l
links_end f x [] l (suc k) e = absurd (omega arith)
links_end f x (y ∷ ys) l zero e = absurd (omega arith)
links_end f x (y ∷ ys) l (suc k) e = links_end f y ys l.1 k (omega arith)

in_get : (xs : List ℕ) (k : ℕ) → k < length xs → In (get_or xs k 0) xs
in_get [] k h = absurd (omega arith)
in_get (x ∷ xs) zero h = inl refl
in_get (x ∷ xs) (suc k) h = inr (in_get xs k (omega arith))

-- The page after a page of a chain is the next in the chain.
pub after_in_chain : (name : Naming) (ps : List Page) (q k : ℕ) → k < length (chain name ps q) → page_after name ps (get_or (chain name ps q) k 0) ≡ get_or (chain name ps q) (suc k) 0
unfolding page_after
after_in_chain name ps q k h = ⊎_elim
    (λ (l : suc k < length (chain name ps q)). ap page_or_none (links_at (follower name ps) q (rest name ps q) (links name ps q) k l))
    (λ (l : length (chain name ps q) ≤ suc k). ap page_or_none (links_end (follower name ps) q (rest name ps q) (links name ps q) k (omega arith)) ∙ sym (get_or_past (chain name ps q) (suc k) 0 l))
    (cases_lt (suc k) (length (chain name ps q)))

-- Verdicts: chained, and free in the end.
pub verdict_chained : (name : Naming) (ps : List Page) (p : ℕ) → (record_of name ps p).verdict ≡ Chained → is_chained name ps p ≡ true
verdict_chained name ps p c = lt-ltb 0 (leader_of name ps p) (lawful.chained_led ps (leader_of name ps p) p c).0

pub chained_verdict : (name : Naming) (ps : List Page) (p : ℕ) → is_chained name ps p ≡ true → (record_of name ps p).verdict ≡ Chained
chained_verdict name ps p c = lawful.led_chained name ps (leader_of name ps p) p (chained_led name ps p c)

pub unchained_verdict : (name : Naming) (ps : List Page) (p : ℕ) (l : Label) → 0 < p → is_chained name ps p ≡ false → label_at ps p ≡ Some l → ends_free (record_of name ps p).verdict ≡ true
unchained_verdict name ps p l h c e = rw (lt-ltb 0 p h, e) (go (is_free l))
  where
    go : (b : Bool) → ends_free (cond b (bare Free) (owned (leader_of name ps p) l)).verdict ≡ true
    go true = refl
    go false = rw c

pub aside_verdict : (name : Naming) (ps : List Page) (p : ℕ) → 0 < p → label_at ps p ≡ None → ends_free (record_of name ps p).verdict ≡ false
aside_verdict name ps p h e = rw (lt-ltb 0 p h, e)

-- No page is a stray where each label can be read as free or is chained.
pub no_stray_where : (name : Naming) (ps : List Page) → ((p : ℕ) (l : Label) → 0 < p → label_at ps p ≡ Some l → (is_free l ≡ true) ⊎ (is_chained name ps p ≡ true)) → (p : ℕ) → (record_of name ps p).verdict ≡ Stray → ⊥
no_stray_where name ps placed p = above (cases_lt 0 p) (label_at ps p) refl
  where
    above : (0 < p) ⊎ (p ≤ 0) → (o : Option Label) → label_at ps p ≡ o → (record_of name ps p).verdict ≡ Stray → ⊥
    above (inr z) o e s = let b : ltb 0 p ≡ false = le-ltb 0 p z in let s2 : Reserved ≡ Stray = rw b at s in cc
    above (inl h) None e s = let b : ltb 0 p ≡ true = lt-ltb 0 p h in let s2 : Aside ≡ Stray = rw (b, e) at s in cc
    above (inl h) (Some l) e s = ⊎_elim
        (λ (f : is_free l ≡ true). let b : ltb 0 p ≡ true = lt-ltb 0 p h in let s2 : Free ≡ Stray = rw (b, e, f) at s in cc)
        (λ (c : is_chained name ps p ≡ true). let s2 : Chained ≡ Stray = sym (chained_verdict name ps p c) ∙ s in cc)
        (placed p l h e)

-- The largest serial number of a table.
pub largest_least : (rs : List Record) (p : ℕ) (d : Record) → p < length rs → serial_if (get_or rs p d).verdict (get_or rs p d).id ≤ largest_serial rs
largest_least [] p d h = absurd (omega arith)
largest_least (r ∷ rs) zero d h = omega arith
largest_least (r ∷ rs) (suc p) d h = let k = largest_least rs p d (omega arith) in omega arith

-- What is chosen of a list.
pub in_kept : (t : ℕ → Bool) (x : ℕ) (xs : List ℕ) → bits_in.In x xs → t x ≡ true → bits_in.In x (filter t xs)
in_kept t x [] i h = absurd i
in_kept t x (y ∷ ys) (inl e) h = let k : t y ≡ true = ap t (sym e) ∙ h in rw k (inl e)
in_kept t x (y ∷ ys) (inr i) h = go (t y) (in_kept t x ys i h)
  where
    go : (b : Bool) → bits_in.In x (filter t ys) → bits_in.In x (cond b (y ∷ filter t ys) (filter t ys))
    go true k = inr k
    go false k = k

pub kept_in : (t : ℕ → Bool) (x : ℕ) (xs : List ℕ) → bits_in.In x (filter t xs) → t x ≡ true
kept_in t x [] i = absurd i
kept_in t x (y ∷ ys) i = go (t y) refl (λ k. kept_in t x ys k) i
  where
    go : (b : Bool) → t y ≡ b → (bits_in.In x (filter t ys) → t x ≡ true) → bits_in.In x (cond b (y ∷ filter t ys) (filter t ys)) → t x ≡ true
    go true e more (inl k) = ap t k ∙ e
    go true e more (inr k) = more k
    go false e more k = more k

pub in_counting : (a n x : ℕ) → a ≤ x → x < a + n → bits_in.In x (range_with_len a n)
in_counting a zero x h k = absurd (omega arith)
in_counting a (suc n) x h k = ⊎_elim (λ (e : x ≡ a). inl e) (λ (d : x ≡ a → ⊥). inr (in_counting (a + 1) n x (omega arith) (omega arith))) (cases_eq x a)

-- The bit table of a mended pack.
pub bits_fit : (name : Naming) (ps : List Page) (p : ℕ) → 0 < p → p < length ps → length ps ≤ 9744 → page_bit (free_all (pages_freed name ps) none_free) p ≡ cond (ends_free (record_of name ps p).verdict) 0 1
bits_fit name ps p h k few = go (cases_Bool (ends_free (record_of name ps p).verdict))
  where
    t : ℕ → Bool
    t p = ends_free (record_of name ps p).verdict

    room : p < 16 * length none_free
    room = rw (tables.none_free_length) (omega arith)

    go : (ends_free (record_of name ps p).verdict ≡ true) ⊎ (ends_free (record_of name ps p).verdict ≡ false) → page_bit (free_all (pages_freed name ps) none_free) p ≡ cond (ends_free (record_of name ps p).verdict) 0 1
    go (inl e) = tables.free_all_in (pages_freed name ps) none_free p room (in_kept (λ q. ends_free (record_of name ps q).verdict) p (pages_above ps) (in_counting 1 (length ps - 1) p h (omega arith)) e) ∙ rw e
    go (inr e) = tables.free_all_out (pages_freed name ps) none_free p room (λ i. not_true (ends_free (record_of name ps p).verdict) e (kept_in (λ q. ends_free (record_of name ps q).verdict) p (pages_above ps) i)) ∙ (tables.none_free_bit p (omega arith) ∙ rw e)

-- The same files, on pages that are partly or wholly mended.
pub same_files : (name : Naming) (real : ℕ → ℕ) (ps qs : List Page) → Names name real (length ps) → Between name real ps qs → SameFiles name ps qs
same_files name real ps qs names w = record {
  count = w.count;
  words = w.words;
  chains = chains_kept name real ps qs names w;
  same_located = located_kept name real ps qs names w;
  same_files = files_kept name real ps qs names w;
  same_entries = entries_kept name real ps qs names w;
}

module _ (name : Naming) (real : ℕ → ℕ) (ps qs : List Page) (names : Names name real (length ps)) (x : AllMended name real ps qs) (none : rivalled ps ≡ 0) where
  w : Between name real ps qs
  w = mended_between name real ps qs x

  -- The label of each page, by cases.
  linked_label : (p : ℕ) → is_chained name ps p ≡ true → (l : Label) → label_at ps p ≡ Some l → label_at qs p ≡ Some (relinked (real (page_after name ps p)) (real (page_before name ps p)) l)
  linked_label p c l e = x.labels p ∙ mended_chained name real ps p l c e

  freed_label : (p : ℕ) → 0 < p → is_chained name ps p ≡ false → (l : Label) → label_at ps p ≡ Some l → label_at qs p ≡ Some free_label
  freed_label p h c l e = x.labels p ∙ mended_free name real ps p l h c e

  -- Read again it is to have the label that it has.
  again : (p : ℕ) → mended_label name real qs p ≡ label_at qs p
  again p = at (cases_lt 0 p) (label_at ps p) refl (cases_Bool (is_chained name ps p))
    where
      at : (0 < p) ⊎ (p ≤ 0) → (o : Option Label) → label_at ps p ≡ o → (is_chained name ps p ≡ true) ⊎ (is_chained name ps p ≡ false) → mended_label name real qs p ≡ label_at qs p
      at (inr z) o e c = let k : p ≡ 0 = omega arith in ap (mended_label name real qs) k ∙ (mended_nought name real qs ∙ ap (label_at qs) (sym k))
      at (inl h) None e c = let k : label_at qs p ≡ None = x.labels p ∙ mended_none name real ps p e in mended_none name real qs p k ∙ sym k
      at (inl h) (Some l) e (inl c) =
          let k = linked_label p c l e in
          mended_chained name real qs p (relinked (real (page_after name ps p)) (real (page_before name ps p)) l) (chained_kept name real ps qs names w p ∙ c) k
          ∙ (ap (λ (n : ℕ). Some (relinked (real n) (real (page_before name qs p)) l)) (after_kept name real ps qs names w p c)
          ∙ (ap (λ (n : ℕ). Some (relinked (real (page_after name ps p)) (real n) l)) (before_kept name real ps qs names w p) ∙ sym k))
      at (inl h) (Some l) e (inr c) = let k = freed_label p h c l e in mended_free name real qs p free_label h (chained_kept name real ps qs names w p ∙ c) k ∙ sym k

  -- Free or chained.
  free_or_chained : (p : ℕ) (l : Label) → 0 < p → label_at qs p ≡ Some l → (l ≡ free_label) ⊎ (is_chained name qs p ≡ true)
  free_or_chained p l h e = at (label_at ps p) refl (cases_Bool (is_chained name ps p))
    where
      at : (o : Option Label) → label_at ps p ≡ o → (is_chained name ps p ≡ true) ⊎ (is_chained name ps p ≡ false) → (l ≡ free_label) ⊎ (is_chained name qs p ≡ true)
      at o k (inl c) = inr (chained_kept name real ps qs names w p ∙ c)
      at None k (inr c) = never (label_at qs p) l (x.labels p ∙ mended_none name real ps p k) e
      at (Some m) k (inr c) = let s : Some l ≡ Some free_label = sym e ∙ freed_label p h c m k in inl (cc)

  -- Linked both ways.
  next_is : (q k : ℕ) (l : Label) → is_leader ps q ≡ true → k < length (chain name ps q) → label_at qs (get_or (chain name ps q) k 0) ≡ Some l → l.next.word ≡ real (get_or (chain name ps q) (suc k) 0)
  next_is q k l e h i =
      let p = get_or (chain name ps q) k 0 in
      let c : is_chained name ps p ≡ true = led_chained name ps q p (record { leader = leader_is ps q e; inside = in_get (chain name ps q) k h }) in
      let m = chained_member name ps p c in
      let s : Some l ≡ Some (relinked (real (page_after name ps p)) (real (page_before name ps p)) m.label) = sym i ∙ linked_label p c m.label m.at_p in
      let t : l ≡ relinked (real (page_after name ps p)) (real (page_before name ps p)) m.label = cc in
      ap (λ (u : Label). u.next.word) t ∙ ap real (after_in_chain name ps q k h)

  previous_is : (q p : ℕ) (l : Label) → is_leader ps q ≡ true → In p (chain name ps q) → label_at qs p ≡ Some l → l.previous.word ≡ real (page_before name ps p)
  previous_is q p l e h i =
      let c : is_chained name ps p ≡ true = led_chained name ps q p (record { leader = leader_is ps q e; inside = h }) in
      let m = chained_member name ps p c in
      let s : Some l ≡ Some (relinked (real (page_after name ps p)) (real (page_before name ps p)) m.label) = sym i ∙ linked_label p c m.label m.at_p in
      let t : l ≡ relinked (real (page_after name ps p)) (real (page_before name ps p)) m.label = cc in
      ap (λ (u : Label). u.previous.word) t

  before_in_chain : (q k : ℕ) → is_leader ps q ≡ true → suc k < length (chain name ps q) → page_before name ps (get_or (chain name ps q) (suc k) 0) ≡ get_or (chain name ps q) k 0
  before_in_chain q k e h =
      let u = get_or (chain name ps q) k 0 in
      before_is name ps none u (get_or (chain name ps q) (suc k) 0) (led_chained name ps q u (record { leader = leader_is ps q e; inside = in_get (chain name ps q) k (omega arith) })) (links_at (follower name ps) q (rest name ps q) (links name ps q) k h)

  both_ways : (q : ℕ) → is_leader ps q ≡ true → LinkedBothWays name real qs q
  both_ways q e = record { next = nexts; previous = backs; first = λ l i. previous_is q q l e (inl refl) i ∙ (ap real (before_leader name ps q (leader_is ps q e)) ∙ names.nought) }
    where
      ch : chain name qs q ≡ chain name ps q
      ch = chain_kept name real ps qs names w q e

      nexts : (k : ℕ) (l : Label) → k < length (chain name qs q) → label_at qs (get_or (chain name qs q) k 0) ≡ Some l → l.next.word ≡ real (get_or (chain name qs q) (k + 1) 0)
      nexts = subst (λ (ys : List ℕ). (k : ℕ) (l : Label) → k < length ys → label_at qs (get_or ys k 0) ≡ Some l → l.next.word ≡ real (get_or ys (k + 1) 0)) (sym ch)
          (λ k l h i. next_is q k l e h i ∙ ap (λ (n : ℕ). real (get_or (chain name ps q) n 0)) (sym (add-one k)))

      backs : (k : ℕ) (l : Label) → k + 1 < length (chain name qs q) → label_at qs (get_or (chain name qs q) (k + 1) 0) ≡ Some l → l.previous.word ≡ real (get_or (chain name qs q) k 0)
      backs = subst (λ (ys : List ℕ). (k : ℕ) (l : Label) → k + 1 < length ys → label_at qs (get_or ys (k + 1) 0) ≡ Some l → l.previous.word ≡ real (get_or ys k 0)) (sym ch)
          (λ k l h i. previous_is q (get_or (chain name ps q) (k + 1) 0) l e (in_get (chain name ps q) (k + 1) h) i
          ∙ ap real (ap (λ (n : ℕ). page_before name ps (get_or (chain name ps q) n 0)) (add-one k) ∙ before_in_chain q k e (rw add-one at h)))

  order : InOrder name real qs
  order = record {
    no_rivals = rivals_kept name real ps qs names w none;
    placed = λ p l h e. ⊎_elim (λ (k : l ≡ free_label). inl k) (λ (k : is_chained name qs p ≡ true). inr ((lawful.survey_laws name qs).one_chain (rivals_kept name real ps qs names w none) p (chained_verdict name qs p k))) (free_or_chained p l h e);
    chains = (lawful.survey_laws name qs).chains;
    both_ways = λ q k. both_ways q (sym (leaders_kept name real ps qs names w q) ∙ leader_from qs q k);
  }

  -- The bits and the highest serial.
  bits : length ps ≤ 9744 → (p : ℕ) → 0 < p → p < length qs → page_bit (mended_record name ps).bits.words p ≡ bit_for (label_at qs p)
  unfolding mended_record
  bits few p h k = bits_fit name ps p h (let z = x.count in omega arith) few ∙ at (label_at ps p) refl (cases_Bool (is_chained name ps p))
    where
      file_linked : (n b : ℕ) (l : Label) → is_file l ≡ true → is_free (relinked n b l) ≡ false
      file_linked n b l f = file_not_free (relinked n b l) (Rattle.survey.proofs.Following.file_plain (relinked n b l) ∙ (sym (Rattle.survey.proofs.Following.file_plain l) ∙ f))

      at : (o : Option Label) → label_at ps p ≡ o → (is_chained name ps p ≡ true) ⊎ (is_chained name ps p ≡ false) → cond (ends_free (record_of name ps p).verdict) 0 1 ≡ bit_for (label_at qs p)
      at None e c = ap (λ (b : Bool). cond b 0 1) (aside_verdict name ps p h e) ∙ sym (ap bit_for (x.labels p ∙ mended_none name real ps p e))
      at (Some l) e (inr c) = ap (λ (b : Bool). cond b 0 1) (unchained_verdict name ps p l h c e) ∙ sym (ap bit_for (freed_label p h c l e))
      at (Some l) e (inl c) =
          let m = chained_member name ps p c in
          ap (λ (v : Verdict). cond (ends_free v) 0 1) (chained_verdict name ps p c)
          ∙ sym (ap bit_for (linked_label p c m.label m.at_p) ∙ ap (λ (b : Bool). cond b 0 1) (file_linked (real (page_after name ps p)) (real (page_before name ps p)) m.label m.file))

  highest : (p : ℕ) (l : Label) → (record_of name qs p).verdict ≡ Chained → label_at qs p ≡ Some l → serial_number (id_of l) ≤ (mended_record name ps).highest
  unfolding mended_record
  highest p l v e =
      let c : is_chained name ps p ≡ true = sym (chained_kept name real ps qs names w p) ∙ verdict_chained name qs p v in
      let m = chained_member name ps p c in
      let s : Some l ≡ Some (relinked (real (page_after name ps p)) (real (page_before name ps p)) m.label) = sym e ∙ linked_label p c m.label m.at_p in
      let t : l ≡ relinked (real (page_after name ps p)) (real (page_before name ps p)) m.label = cc in
      let inside = has_label ps p m.label m.at_p in
      let long = finding.length_table name ps in
      let r : get_or (table_of name ps) p no_record ≡ filed Chained (leader_of name ps p) m.label = finding.at_table name ps p inside ∙ marking.chained_record ps (leader_of name ps p) p (ltb-true 0 (leader_of name ps p) c) m in
      let k : serial_if (get_or (table_of name ps) p no_record).verdict (get_or (table_of name ps) p no_record).id ≤ largest_serial (table_of name ps) = largest_least (table_of name ps) p no_record (omega arith) in
      let i : serial_if (get_or (table_of name ps) p no_record).verdict (get_or (table_of name ps) p no_record).id ≡ serial_number (id_of m.label) = ap (λ (y : Record). serial_if y.verdict y.id) r in
      let j : serial_number (id_of l) ≡ serial_number (id_of m.label) = ap (λ (y : Label). serial_number (id_of y)) t in
      omega arith

  pub kept_state : length ps ≤ 9744 → KeptState name real qs (mended_record name ps)
  kept_state few = record {
    order = order;
    no_stray = no_stray_where name qs (λ p l h e. ⊎_elim (λ (k : l ≡ free_label). inl (ap is_free k)) (λ (k : is_chained name qs p ≡ true). inr k) (free_or_chained p l h e));
    nothing_to_mend = nothing_left name real qs again;
    bits = bits few;
    highest = highest;
  }

  pub all_kept : length ps ≤ 9744 → Mended name real ps qs (mended_record name ps)
  all_kept few = record { same = same_files name real ps qs names w; labels = x.labels; kept = kept_state few }
