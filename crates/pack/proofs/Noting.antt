-- The links of chained pages, noted page after page.
use Rattle.std.proofs.Common.{◌≡◌, ℕ, zero, suc, ◌+◌, ◌-◌, ◌<◌, ◌≤◌, Bool, true, false, cond, eqb, ◌⊎◌, List, length, get_or, set, replicate, Some, None, Option, sym, refl, ap, ◌∙◌, inl, inr, ⊎_elim, arith, length-set}
use lib.ListN.{length-replicate}
use Rattle.std.specs.List.{range_with_len}
use Rattle.std.proofs.lemmas.Bool.{cases_Bool, cases_eq, eq-eqb, ne_eqb, and_from}
use Rattle.std.proofs.lemmas.List.{get_or-set_same, get_or-set_other}
use Rattle.disk.specs.Addresses.{real_address}
use Rattle.disk.specs.Media.{Page}
use Rattle.survey.specs.declared.table.Record.{Record}
use Rattle.survey.specs.declared.table.Verdict.TheVariants.{Reserved, Chained}
use Rattle.survey.specs.Verdicts.{record_of}
use Rattle.survey.specs.Chains.{Naming, follower, first_of, rivalled}
use Rattle.survey.proofs.Following.{not_true, has_label, follows}
use Rattle.survey.proofs.Leading.{first_is}
use Rattle.ledger.specs.Mends.{is_chained, page_after, page_before}
use Rattle.ledger.proofs.Mending.{after_some, after_none}
use Rattle.ledger.proofs.Salvage.{one_before}
use Rattle.ledger.proofs.Keeping.{verdict_chained, chained_verdict}
use Rattle.pack.specs.declared.links.Links.{Links}
use Rattle.pack.specs.Linking.{no_links, links_at, noted_next, noted, is_before, Noted, LinksFound}

-- A test for the verdict of a chained page tells whether the page is chained.
pub says_chained : (name : Naming) (ps : List Page) (p : ℕ) (r : Record) (b : Bool) → r ≡ record_of name ps p → (b ≡ true → r.verdict ≡ Chained) → (r.verdict ≡ Chained → b ≡ true) → b ≡ is_chained name ps p
says_chained name ps p r b e h k = ⊎_elim
    (λ (c : is_chained name ps p ≡ true). k (ap (λ (x : Record). x.verdict) e ∙ chained_verdict name ps p c) ∙ sym c)
    (λ (c : is_chained name ps p ≡ false). ⊎_elim
    (λ (t : b ≡ true). not_true (is_chained name ps p) c (verdict_chained name ps p (ap (λ (x : Record). x.verdict) (sym e) ∙ h t)))
    (λ (t : b ≡ false). t ∙ sym c)
    (cases_Bool b))
    (cases_Bool (is_chained name ps p))

first_skip : (t : ℕ → Bool) (a k p : ℕ) → a + k ≡ p → t p ≡ false → first_of t (range_with_len a (suc k)) ≡ first_of t (range_with_len a k)
first_skip t a zero p e h = let z : t a ≡ false = ap t (omega arith) ∙ h in rw z
first_skip t a (suc k) p e h = ap (λ (n : ℕ). cond (t a) a n) (first_skip t (a + 1) k p (omega arith) h)

pub first_pass : (t : ℕ → Bool) (i : ℕ) → t i ≡ false → first_of t (range_with_len 1 ((i + 1) - 1)) ≡ first_of t (range_with_len 1 (i - 1))
first_pass t zero e = refl
first_pass t (suc i) e = let k : (suc i + 1) - 1 ≡ suc (suc i - 1) = omega arith in ap (λ (n : ℕ). first_of t (range_with_len 1 n)) k ∙ first_skip t 1 (suc i - 1) (suc i) (omega arith) e

-- A chained page is above page 0, whose record is reserved.
pub above_0 : (name : Naming) (ps : List Page) (i : ℕ) → is_chained name ps i ≡ true → 0 < i
above_0 name ps zero c = let s : Reserved ≡ Chained = chained_verdict name ps 0 c in cc
above_0 name ps (suc i) c = omega arith

none_at : (n p : ℕ) → links_at (replicate n no_links) p ≡ no_links
none_at zero p = refl
none_at (suc n) zero = refl
none_at (suc n) (suc p) = none_at n p

nought : real_address 0 ≡ 0
unfolding real_address
nought = refl

pub noted_none : (name : Naming) (ps : List Page) → length ps ≤ 9744 → Noted name ps 0 (replicate 9744 no_links)
noted_none name ps few = record {
  room = let z = length-replicate {A = Links} 9744 no_links in omega arith;
  done = λ p a b c. absurd (omega arith);
  left = λ p a. ap (λ (l : Links). l.next.word) (none_at 9744 p);
  before = λ p a. ap (λ (l : Links). l.previous.word) (none_at 9744 p) ∙ sym nought;
}

pub noted_skip : (name : Naming) (ps : List Page) (i : ℕ) (ls : List Links) → is_chained name ps i ≡ false → Noted name ps i ls → Noted name ps (i + 1) ls
noted_skip name ps i ls c n = record {
  room = n.room;
  done = λ p a b d. ⊎_elim (λ (e : p ≡ i). not_true (is_chained name ps i) c (ap (is_chained name ps) (sym e) ∙ d)) (λ (e : p ≡ i → ⊥). n.done p a (omega arith) d) (cases_eq p i);
  left = λ p a. n.left p (omega arith);
  before = λ p a. n.before p a ∙ ap real_address (sym (first_pass (is_before name ps p) i (rw c)));
}

noted_end : (name : Naming) (ps : List Page) (i : ℕ) (ls : List Links) → is_chained name ps i ≡ true → follower name ps i ≡ None → Noted name ps i ls → Noted name ps (i + 1) ls
noted_end name ps i ls c f n = record {
  room = n.room;
  done = λ p a b d. ⊎_elim
      (λ (e : p ≡ i). n.left p (omega arith) ∙ (sym nought ∙ ap real_address (sym (after_none name ps i f) ∙ ap (page_after name ps) (sym e))))
      (λ (e : p ≡ i → ⊥). n.done p a (omega arith) d)
      (cases_eq p i);
  left = λ p a. n.left p (omega arith);
  before = λ p a. n.before p a ∙ ap real_address (sym (first_pass (is_before name ps p) i (rw (c, after_none name ps i f) (ne_eqb 0 p (λ e. omega arith)))));
}

-- A write that leaves a part of an element as it is leaves it so everywhere.
part_left : {A : Type 0} (part : A → ℕ) (xs : List A) (i q : ℕ) (v d : A) → i < length xs → part v ≡ part (get_or xs i d) → part (get_or (set xs i v) q d) ≡ part (get_or xs q d)
part_left part xs i q v d h k = ⊎_elim
    (λ (e : q ≡ i). rw e (ap part (get_or-set_same xs i v d h) ∙ k))
    (λ (e : q ≡ i → ⊥). ap part (get_or-set_other xs i q v d e))
    (cases_eq q i)

-- What stands at page q once the link from page p to page y is noted.
module _ (ls : List Links) (p y : ℕ) (p_in : p < length ls) (y_in : y < length ls) where
  y_in_too : y < length (noted_next ls p y)
  y_in_too = let z = length-set ls p (record { next = record { word = real_address y }; previous = (links_at ls p).previous }) in omega arith

  next_left : (q : ℕ) → (links_at (noted (Some y) p ls) q).next.word ≡ (links_at (noted_next ls p y) q).next.word
  next_left q = part_left (λ l. l.next.word) (noted_next ls p y) y q (record { next = (links_at (noted_next ls p y) y).next; previous = record { word = real_address p } }) no_links y_in_too refl

  next_here : (links_at (noted (Some y) p ls) p).next.word ≡ real_address y
  next_here = next_left p ∙ ap (λ (l : Links). l.next.word) (get_or-set_same ls p (record { next = record { word = real_address y }; previous = (links_at ls p).previous }) no_links p_in)

  next_other : (q : ℕ) → (q ≡ p → ⊥) → (links_at (noted (Some y) p ls) q).next.word ≡ (links_at ls q).next.word
  next_other q e = next_left q ∙ ap (λ (l : Links). l.next.word) (get_or-set_other ls p q (record { next = record { word = real_address y }; previous = (links_at ls p).previous }) no_links e)

  previous_there : (links_at (noted (Some y) p ls) y).previous.word ≡ real_address p
  previous_there = ap (λ (l : Links). l.previous.word) (get_or-set_same (noted_next ls p y) y (record { next = (links_at (noted_next ls p y) y).next; previous = record { word = real_address p } }) no_links y_in_too)

  previous_other : (q : ℕ) → (q ≡ y → ⊥) → (links_at (noted (Some y) p ls) q).previous.word ≡ (links_at ls q).previous.word
  previous_other q e =
      ap (λ (l : Links). l.previous.word) (get_or-set_other (noted_next ls p y) y q (record { next = (links_at (noted_next ls p y) y).next; previous = record { word = real_address p } }) no_links e)
      ∙ part_left (λ l. l.previous.word) ls p q (record { next = record { word = real_address y }; previous = (links_at ls p).previous }) no_links p_in refl

noted_on : (name : Naming) (ps : List Page) (i y : ℕ) (ls : List Links) → rivalled ps ≡ 0 → i < length ps → is_chained name ps i ≡ true → follower name ps i ≡ Some y → Noted name ps i ls → Noted name ps (i + 1) (noted (Some y) i ls)
noted_on name ps i y ls none inside c f n = record {
  room = omega (arith, length-set ls i (record { next = record { word = real_address y }; previous = (links_at ls i).previous }), length-set (noted_next ls i y) y (record { next = (links_at (noted_next ls i y) y).next; previous = record { word = real_address i } }), n.room);
  done = λ p a b d. ⊎_elim
      (λ (e : p ≡ i). ap (λ (x : ℕ). (links_at (noted (Some y) i ls) x).next.word) e ∙ (next_here ls i y i_in y_in ∙ ap real_address (sym (after_some name ps i y f) ∙ ap (page_after name ps) (sym e))))
      (λ (e : p ≡ i → ⊥). next_other ls i y i_in y_in p e ∙ n.done p a (omega arith) d)
      (cases_eq p i);
  left = λ p a. next_other ls i y i_in y_in p (λ e. omega arith) ∙ n.left p (omega arith);
  before = λ p a. ⊎_elim
      (λ (e : p ≡ y). ap (λ (x : ℕ). (links_at (noted (Some y) i ls) x).previous.word) e ∙ (previous_there ls i y i_in y_in ∙ ap real_address (sym first ∙ ap (λ (x : ℕ). first_of (is_before name ps x) (range_with_len 1 ((i + 1) - 1))) (sym e))))
      (λ (e : p ≡ y → ⊥). previous_other ls i y i_in y_in p e ∙ (n.before p a ∙ ap real_address (sym (first_pass (is_before name ps p) i (rw (c, after_some name ps i y f) (ne_eqb y p (λ z. e (sym z))))))))
      (cases_eq p y);
}
  where
    i_in : i < length ls
    i_in = omega (arith, n.room)

    y_in : y < length ls
    y_in = let t = follows name ps i y f in let k = has_label ps y t.to t.at_p in omega (arith, n.room)

    earlier : (q : ℕ) → q < i → (is_chained name ps q ≡ true) ⊎ (is_chained name ps q ≡ false) → (o : Option ℕ) → follower name ps q ≡ o → is_before name ps y q ≡ false
    earlier q b (inr k) o g = rw k
    earlier q b (inl k) None g = rw (k, after_none name ps q g) (ne_eqb 0 y (λ e. let t = follows name ps i y f in let a = t.above in omega arith))
    earlier q b (inl k) (Some z) g = rw (k, after_some name ps q z g) (ne_eqb z y (λ e. let s : q ≡ i = one_before name ps none q i y k c (g ∙ ap {B = Option ℕ} Some e) f in omega arith))

    first : first_of (is_before name ps y) (range_with_len 1 ((i + 1) - 1)) ≡ i
    first = let h = above_0 name ps i c in first_is (is_before name ps y) 1 ((i + 1) - 1) i h (omega arith) (and_from (is_chained name ps i) (eqb (page_after name ps i) y) c (eq-eqb (page_after name ps i) y (after_some name ps i y f)))
        (λ q a b. earlier q b (cases_Bool (is_chained name ps q)) (follower name ps q) refl)

-- What a turn of the loop has noted.
pub noted_more : (name : Naming) (ps : List Page) (i : ℕ) (ls ms : List Links) → rivalled ps ≡ 0 → i < length ps → is_chained name ps i ≡ true → ms ≡ noted (follower name ps i) i ls → Noted name ps i ls → Noted name ps (i + 1) ms
noted_more name ps i ls ms none inside c e n = go (follower name ps i) refl e
  where
    go : (o : Option ℕ) → follower name ps i ≡ o → ms ≡ noted o i ls → Noted name ps (i + 1) ms
    go None f k = rw k (noted_end name ps i ls c f n)
    go (Some y) f k = rw k (noted_on name ps i y ls none inside c f n)

pub noted_all : (name : Naming) (ps : List Page) (i : ℕ) (ls : List Links) → i ≡ length ps → Noted name ps i ls → LinksFound name ps ls
unfolding page_before
noted_all name ps i ls e n = record {
  after = λ p a b c. n.done p a (omega arith) c;
  before = λ p a. n.before p a ∙ ap (λ (k : ℕ). real_address (first_of (is_before name ps p) (range_with_len 1 (k - 1)))) e;
}
