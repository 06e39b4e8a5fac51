-- What comes of the pages that a format leaves: they are in order, the record fits, no file is there.
use Rattle.std.proofs.Common.{◌≡◌, ℕ, zero, suc, ◌+◌, ◌-◌, ◌<◌, ◌≤◌, Bool, true, false, not, ◌&&◌, eqb, ltb, ◌⊎◌, List, [], ◌∷◌, map, length, get_or, replicate, Some, None, Option, sym, refl, ap, ◌∙◌, subst, inl, inr, ⊎_elim, arith}
use Rattle.std.specs.List.{range_with_len}
use Rattle.std.proofs.lemmas.Bool.{cases_eq, cases_lt, lt-ltb, le-ltb, and_right, and_left, and_from, ne_eqb}
use Rattle.disk.specs.declared.label.Label.{Label}
use Rattle.disk.specs.Addresses.{page_named, real_address}
use Rattle.disk.specs.Labels.{free_label, is_file, id_of, serial_number}
use Rattle.disk.specs.Media.{Page, label_at}
use Rattle.disk.proofs.Naming.{conversion}
use Rattle.bits.specs.Bits.{page_bit, none_free, In as Listed}
use Rattle.bits.proofs.Tables.{free_all_in, free_all_out, none_free_bit, none_free_length}
use Rattle.survey.specs.declared.table.Verdict.TheVariants.{Reserved, Free, Chained, Stray, Aside}
use Rattle.survey.specs.Chains.{Naming, is_leader, follower, rest, chain, leader_of, rivalled, rival_of}
use Rattle.survey.specs.Verdicts.{record_of}
use Rattle.survey.specs.Laws.{In, Leader, InOneChain}
use Rattle.survey.proofs.Following.{not_true, follower_from, rest_is, leader_is, leader_from, has_label}
use Rattle.survey.proofs.Leading.{first_is, first_none, Led, leader_of_is, leader_only, rivalled_is}
use Rattle.survey.proofs.Lawful.{led_chained, chained_led, survey_laws}
use Rattle.ledger.specs.Formats.{directory_leader_label, directory_page_label, new_free, new_record}
use Rattle.ledger.specs.Mends.{is_chained, page_after, page_before, mended_label, mend_at, mend_writes}
use Rattle.ledger.specs.Ledgers.{is_directory, counts, file_at, files, entries, ledger_of}
use Rattle.ledger.specs.States.{LinkedBothWays, InOrder, bit_for, KeptState}
use Rattle.ledger.specs.Books.{opening}
use Rattle.ledger.proofs.Formatting.{Fresh}
use Rattle.ledger.proofs.Restoring.{gathered_none}
use Rattle.ledger.proofs.Keeping.{in_counting}

-- Lists.
map_same : {X : Type 0} (f : ℕ → X) (x : X) (a n : ℕ) → ((p : ℕ) → a ≤ p → p < a + n → f p ≡ x) → map f (range_with_len a n) ≡ replicate n x
map_same f x a zero h = refl
map_same f x a (suc n) h = rw (h a (omega arith) (omega arith)) (ap (λ ys. x ∷ ys) (map_same f x (a + 1) n (λ p i j. h p (omega arith) (omega arith))))

counted_out : (p a n : ℕ) → p < a → Listed p (range_with_len a n) → ⊥
counted_out p a zero h i = i
counted_out p a (suc n) h (inl e) = omega arith
counted_out p a (suc n) h (inr i) = counted_out p (a + 1) n (omega arith) i

-- The pages of a new pack: the two of the directory, and free ones.
abbrev Kinds : ℕ → Label → Type 0
Kinds p l = ((p ≡ 1) × (l ≡ directory_leader_label)) ⊎ (((p ≡ 2) × (l ≡ directory_page_label)) ⊎ ((3 ≤ p) × (l ≡ free_label)))

module _ (c : ℕ) (qs : List Page) (f : Fresh c qs) where
  abbrev name : Naming
  name = page_named c

  pub large : 24 ≤ length qs
  large = let a = f.count in let b = f.least in omega arith

  kind : (p : ℕ) (l : Label) → 0 < p → label_at qs p ≡ Some l → p < length qs → Kinds p l
  kind p l h e i = go (cases_eq p 1) (cases_eq p 2)
    where
      go : (p ≡ 1) ⊎ (p ≡ 1 → ⊥) → (p ≡ 2) ⊎ (p ≡ 2 → ⊥) → Kinds p l
      go (inl s) t = let a = f.at_1 in let b : label_at qs 1 ≡ Some l = ap (label_at qs) (sym s) ∙ e in inl (s, cc)
      go (inr s) (inl t) = let a = f.at_2 in let b : label_at qs 2 ≡ Some l = ap (label_at qs) (sym t) ∙ e in inr (inl (t, cc))
      go (inr s) (inr t) = let a = f.free p (omega arith) i in inr (inr (omega arith, cc))

  -- The one leader, and its chain.
  leader_1 : Leader qs 1
  unfolding real_address
  leader_1 = record { label = directory_leader_label; at_q = f.at_1; above = omega arith; file = refl; first = refl; full = refl }

  one_leads : (q : ℕ) → Leader qs q → q ≡ 1
  one_leads q k = go (kind q k.label k.above k.at_q (has_label qs q k.label k.at_q))
    where
      go : Kinds q k.label → q ≡ 1
      go (inl s) = s.0
      go (inr (inl s)) = let a : ◌≡◌ {A = ℕ} 1 0 = sym (ap (λ (l : Label). l.number) s.1) ∙ k.first in absurd (omega arith)
      go (inr (inr s)) = not_true (is_file k.label) (ap is_file s.1) k.file

  follower_1 : follower name qs 1 ≡ Some 2
  unfolding real_address
  follower_1 =
      let a = large in
      follower_from name qs 1 2 (record {
        from = directory_leader_label;
        to = directory_page_label;
        at_q = f.at_1;
        at_p = f.at_2;
        full = refl;
        named = (conversion c f.most).there 2 (let b = f.count in omega arith);
        above = omega arith;
        file = refl;
        same_file = refl;
        one_higher = refl;
      })

  nought : name 0 ≡ Some 0
  nought = ap name (sym (conversion c f.most).nought) ∙ (conversion c f.most).there 0 (let a = large in let b = f.count in omega arith)

  follower_2 : follower name qs 2 ≡ None
  follower_2 = rw f.at_2 (rw nought)

  rest_1 : rest name qs 1 ≡ 2 ∷ []
  rest_1 = rest_is name qs 1 (2 ∷ []) (follower_1, follower_2)

  no_rivals : rivalled qs ≡ 0
  no_rivals = go (cases_lt 0 (rivalled qs))
    where
      go : (0 < rivalled qs) ⊎ (rivalled qs ≤ 0) → rivalled qs ≡ 0
      go (inr h) = omega arith
      go (inl h) = let r = rivalled_is qs h in absurd (r.apart (one_leads (rivalled qs) r.one ∙ sym (one_leads (rival_of qs (rivalled qs)) r.two)))

  -- The pages that are in a chain.
  pub led_1 : Led name qs 1 1
  led_1 = record { leader = leader_1; inside = inl refl }

  pub led_2 : Led name qs 1 2
  led_2 = record { leader = leader_1; inside = inr (rw rest_1 (inl refl)) }

  led_only : (p q : ℕ) → Led name qs q p → (p ≡ 1) ⊎ (p ≡ 2)
  led_only p q l = go (subst (λ (x : ℕ). In p (chain name qs x)) (one_leads q l.leader) l.inside)
    where
      go : In p (chain name qs 1) → (p ≡ 1) ⊎ (p ≡ 2)
      go (inl e) = inl e
      go (inr i) = two (rw rest_1 at i)
        where
          two : In p (2 ∷ []) → (p ≡ 1) ⊎ (p ≡ 2)
          two (inl e) = inr e
          two (inr n) = absurd n

  pub leader_of_1 : leader_of name qs 1 ≡ 1
  leader_of_1 = leader_only name qs no_rivals 1 1 led_1

  pub leader_of_2 : leader_of name qs 2 ≡ 1
  leader_of_2 = leader_only name qs no_rivals 1 2 led_2

  pub leader_of_none : (p : ℕ) → (p ≡ 1 → ⊥) → (p ≡ 2 → ⊥) → leader_of name qs p ≡ 0
  leader_of_none p a b = go (cases_lt 0 (leader_of name qs p))
    where
      go : (0 < leader_of name qs p) ⊎ (leader_of name qs p ≤ 0) → leader_of name qs p ≡ 0
      go (inr h) = omega arith
      go (inl h) = absurd (⊎_elim a b (led_only p (leader_of name qs p) (leader_of_is name qs p h)))

  -- In order.
  placed : (p : ℕ) (l : Label) → 0 < p → label_at qs p ≡ Some l → (l ≡ free_label) ⊎ InOneChain name qs p
  placed p l h e = go (kind p l h e (has_label qs p l e))
    where
      chained : Led name qs 1 p → InOneChain name qs p
      chained d = (survey_laws name qs).one_chain no_rivals p (led_chained name qs 1 p d)

      go : Kinds p l → (l ≡ free_label) ⊎ InOneChain name qs p
      go (inl s) = inr (chained (subst (λ (x : ℕ). Led name qs 1 x) (sym s.0) led_1))
      go (inr (inl s)) = inr (chained (subst (λ (x : ℕ). Led name qs 1 x) (sym s.0) led_2))
      go (inr (inr s)) = inl s.1

  -- A label that stands on one of the directory's pages is the one that was written.
  stands : (p : ℕ) (l m : Label) → label_at qs p ≡ Some m → label_at qs p ≡ Some l → l ≡ m
  stands p l m a b = cc

  next_at : (k : ℕ) (l : Label) → k < 2 → label_at qs (get_or (1 ∷ 2 ∷ []) k 0) ≡ Some l → l.next.word ≡ real_address (get_or (1 ∷ 2 ∷ []) (k + 1) 0)
  next_at zero l h e = ap (λ (x : Label). x.next.word) (stands 1 l directory_leader_label f.at_1 e)
  next_at (suc zero) l h e = ap (λ (x : Label). x.next.word) (stands 2 l directory_page_label f.at_2 e) ∙ sym (conversion c f.most).nought
  next_at (suc (suc k)) l h e = absurd (omega arith)

  previous_at : (k : ℕ) (l : Label) → k + 1 < 2 → label_at qs (get_or (1 ∷ 2 ∷ []) (k + 1) 0) ≡ Some l → l.previous.word ≡ real_address (get_or (1 ∷ 2 ∷ []) k 0)
  previous_at zero l h e = ap (λ (x : Label). x.previous.word) (stands 2 l directory_page_label f.at_2 e)
  previous_at (suc k) l h e = absurd (omega arith)

  chain_1 : chain name qs 1 ≡ 1 ∷ 2 ∷ []
  chain_1 = ap (λ (ys : List ℕ). 1 ∷ ys) rest_1

  linked_1 : LinkedBothWays name real_address qs 1
  linked_1 = record {
    next = subst (λ (zs : List ℕ). (k : ℕ) (l : Label) → k < length zs → label_at qs (get_or zs k 0) ≡ Some l → l.next.word ≡ real_address (get_or zs (k + 1) 0)) (sym chain_1) next_at;
    previous = subst (λ (zs : List ℕ). (k : ℕ) (l : Label) → k + 1 < length zs → label_at qs (get_or zs (k + 1) 0) ≡ Some l → l.previous.word ≡ real_address (get_or zs k 0)) (sym chain_1) previous_at;
    first = λ l e. ap (λ (x : Label). x.previous.word) (stands 1 l directory_leader_label f.at_1 e);
  }

  in_order : InOrder name real_address qs
  in_order = record {
    no_rivals = no_rivals;
    placed = placed;
    chains = λ q k. (survey_laws name qs).chains q k;
    both_ways = λ q k. subst (λ (x : ℕ). LinkedBothWays name real_address qs x) (sym (one_leads q k)) linked_1;
  }

  -- No strays.
  no_stray : (p : ℕ) → (record_of name qs p).verdict ≡ Stray → ⊥
  no_stray p = go (cases_lt 0 p) (label_at qs p) refl
    where
      here : Led name qs 1 p → (record_of name qs p).verdict ≡ Stray → ⊥
      here d e = let z : Chained ≡ Stray = sym (led_chained name qs 1 p d) ∙ e in cc

      go : (0 < p) ⊎ (p ≤ 0) → (o : Option Label) → label_at qs p ≡ o → (record_of name qs p).verdict ≡ Stray → ⊥
      go (inr h) o s e = let z : Reserved ≡ Stray = rw (le-ltb 0 p h) at e in cc
      go (inl h) None s e = let z : Aside ≡ Stray = rw (lt-ltb 0 p h, s) at e in cc
      go (inl h) (Some l) s e = labelled (kind p l h s (has_label qs p l s))
        where
          labelled : Kinds p l → ⊥
          labelled (inl t) = here (subst (λ (x : ℕ). Led name qs 1 x) (sym t.0) led_1) e
          labelled (inr (inl t)) = here (subst (λ (x : ℕ). Led name qs 1 x) (sym t.0) led_2) e
          labelled (inr (inr t)) = let z : Free ≡ Stray = rw (lt-ltb 0 p h, s, t.1) at e in cc

  -- Nothing to mend.
  after_1 : page_after name qs 1 ≡ 2
  unfolding page_after
  after_1 = rw follower_1

  after_2 : page_after name qs 2 ≡ 0
  unfolding page_after
  after_2 = rw follower_2

  -- No page but 1 comes before a chained one.
  before_test : (p q : ℕ) → (p ≡ 0 → ⊥) → ((q ≡ 1) × (p ≡ 2) → ⊥) → (is_chained name qs q && eqb (page_after name qs q) p) ≡ false
  before_test p q z d = go (cases_eq q 1) (cases_eq q 2)
    where
      go : (q ≡ 1) ⊎ (q ≡ 1 → ⊥) → (q ≡ 2) ⊎ (q ≡ 2 → ⊥) → (is_chained name qs q && eqb (page_after name qs q) p) ≡ false
      go (inl s) t = and_right (is_chained name qs q) (eqb (page_after name qs q) p) (ne_eqb (page_after name qs q) p (λ e. d (s, sym e ∙ (ap (page_after name qs) s ∙ after_1))))
      go (inr s) (inl t) = and_right (is_chained name qs q) (eqb (page_after name qs q) p) (ne_eqb (page_after name qs q) p (λ e. z (sym e ∙ (ap (page_after name qs) t ∙ after_2))))
      go (inr s) (inr t) = and_left (is_chained name qs q) (eqb (page_after name qs q) p) (ap (ltb 0) (leader_of_none q s t))

  before_1 : page_before name qs 1 ≡ 0
  unfolding page_before
  before_1 = first_none (λ q. is_chained name qs q && eqb (page_after name qs q) 1) 1 (length qs - 1) (λ q u v. before_test 1 q (λ e. omega arith) (λ e. let s = e.1 in omega arith))

  before_2 : page_before name qs 2 ≡ 1
  unfolding page_before
  before_2 =
      let a = large in
      first_is (λ q. is_chained name qs q && eqb (page_after name qs q) 2) 1 (length qs - 1) 1 (omega arith) (omega arith)
      (and_from (is_chained name qs 1) (eqb (page_after name qs 1) 2) (ap (ltb 0) leader_of_1) (ap (λ (x : ℕ). eqb x 2) after_1))
      (λ q u v. absurd (omega arith))

  unmended_1 : mend_at name real_address qs 1 ≡ []
  unfolding mend_at mended_label real_address
  unmended_1 = rw f.at_1 (rw (leader_of_1, after_1, before_1))

  unmended_2 : mend_at name real_address qs 2 ≡ []
  unfolding mend_at mended_label real_address
  unmended_2 = rw f.at_2 (rw (leader_of_2, after_2, before_2))

  unmended_3 : (p : ℕ) → 3 ≤ p → p < length qs → mend_at name real_address qs p ≡ []
  unfolding mend_at mended_label
  unmended_3 p h i = rw (f.free p h i) (rw (lt-ltb 0 p (omega arith)) (rw (leader_of_none p (λ e. omega arith) (λ e. omega arith))))

  unmended : (p : ℕ) → 1 ≤ p → p < length qs → mend_at name real_address qs p ≡ []
  unmended p h i = go (cases_eq p 1) (cases_eq p 2)
    where
      go : (p ≡ 1) ⊎ (p ≡ 1 → ⊥) → (p ≡ 2) ⊎ (p ≡ 2 → ⊥) → mend_at name real_address qs p ≡ []
      go (inl s) t = ap (mend_at name real_address qs) s ∙ unmended_1
      go (inr s) (inl t) = ap (mend_at name real_address qs) t ∙ unmended_2
      go (inr s) (inr t) = unmended_3 p (omega arith) i

  nothing_to_mend : mend_writes name real_address qs ≡ []
  unfolding mend_writes
  nothing_to_mend = gathered_none (mend_at name real_address qs) 1 (length qs - 1) (λ p u v. unmended p u (let a = large in omega arith))

  -- The record fits.
  taken_below : (p : ℕ) → p < 3 → page_bit (new_record (length qs)).bits.words p ≡ 1
  taken_below p h =
      let a = none_free_length in
      free_all_out (new_free (length qs)) none_free p (omega arith) (counted_out p 3 (length qs - 3) h) ∙ none_free_bit p (omega arith)

  bit_1 : page_bit (new_record (length qs)).bits.words 1 ≡ bit_for (label_at qs 1)
  unfolding real_address
  bit_1 = taken_below 1 (omega arith) ∙ sym (ap bit_for f.at_1)

  bit_2 : page_bit (new_record (length qs)).bits.words 2 ≡ bit_for (label_at qs 2)
  unfolding real_address
  bit_2 = taken_below 2 (omega arith) ∙ sym (ap bit_for f.at_2)

  bit_3 : (p : ℕ) → 3 ≤ p → p < length qs → page_bit (new_record (length qs)).bits.words p ≡ bit_for (label_at qs p)
  bit_3 p h i =
      let a = none_free_length in
      let b = f.count in
      let d = f.most in
      free_all_in (new_free (length qs)) none_free p (omega arith) (in_counting 3 (length qs - 3) p h (omega arith)) ∙ sym (ap bit_for (f.free p h i))

  bits : (p : ℕ) → 0 < p → p < length qs → page_bit (new_record (length qs)).bits.words p ≡ bit_for (label_at qs p)
  bits p h i = go (cases_eq p 1) (cases_eq p 2)
    where
      go : (p ≡ 1) ⊎ (p ≡ 1 → ⊥) → (p ≡ 2) ⊎ (p ≡ 2 → ⊥) → page_bit (new_record (length qs)).bits.words p ≡ bit_for (label_at qs p)
      go (inl s) t = rw s bit_1
      go (inr s) (inl t) = rw t bit_2
      go (inr s) (inr t) = bit_3 p (omega arith) i

  highest : (p : ℕ) (l : Label) → (record_of name qs p).verdict ≡ Chained → label_at qs p ≡ Some l → serial_number (id_of l) ≤ 1
  highest p l v e = go (led_only p (leader_of name qs p) (leader_of_is name qs p (chained_led qs (leader_of name qs p) p v).0))
    where
      go : (p ≡ 1) ⊎ (p ≡ 2) → serial_number (id_of l) ≤ 1
      go (inl s) = let a : l ≡ directory_leader_label = stands 1 l directory_leader_label f.at_1 (ap (label_at qs) (sym s) ∙ e) in let b : serial_number (id_of l) ≡ 1 = ap (λ (x : Label). serial_number (id_of x)) a in omega arith
      go (inr s) = let a : l ≡ directory_page_label = stands 2 l directory_page_label f.at_2 (ap (label_at qs) (sym s) ∙ e) in let b : serial_number (id_of l) ≡ 1 = ap (λ (x : Label). serial_number (id_of x)) a in omega arith

  pub kept_state : KeptState name real_address qs (new_record (length qs))
  kept_state = record { order = in_order; no_stray = no_stray; nothing_to_mend = nothing_to_mend; bits = bits; highest = highest }

  -- No file counts, and the directory has its two entries.
  directory_1 : is_directory qs 1 ≡ true
  directory_1 = rw f.at_1

  none_counts : (q : ℕ) → counts qs q ≡ false
  none_counts q = go (cases_eq q 1) (is_leader qs q) refl
    where
      go : (q ≡ 1) ⊎ (q ≡ 1 → ⊥) → (b : Bool) → is_leader qs q ≡ b → counts qs q ≡ false
      go (inl s) b e = and_right (is_leader qs q) (not (is_directory qs q)) (ap not (ap (is_directory qs) s ∙ directory_1))
      go (inr s) false e = and_left (is_leader qs q) (not (is_directory qs q)) e
      go (inr s) true e = absurd (s (one_leads q (leader_is qs q e)))

  no_files : files name qs ≡ replicate (length qs) None
  unfolding files
  no_files = map_same (file_at name qs) None 0 (length qs) (λ p u v. rw (none_counts p))

  two_entries : entries name qs ≡ (opening (length qs)).entries
  unfolding entries
  two_entries = rw (leader_from qs 1 leader_1, directory_1, rest_1) (rw (f.at_2, f.data_2))

  pub opens : ledger_of name qs (new_record (length qs)) ≡ opening (length qs)
  opens = rw (no_files, two_entries)
