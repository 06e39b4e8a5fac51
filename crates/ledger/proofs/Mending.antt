-- Pages some of whose labels are mended, and all others as they were: no chain is another.
use Rattle.std.proofs.Common.{◌≡◌, ℕ, ◌+◌, ◌<◌, ◌≤◌, Bool, true, false, cond, ◌&&◌, eqb, ltb, ◌⊎◌, List, length, Some, None, Option, sym, refl, ap, ◌∙◌, inl, inr, ⊎_elim}
use Rattle.std.proofs.lemmas.Bool.{cases_Bool, cases_lt, lt-ltb, ltb-true, le-ltb}
use Rattle.disk.specs.declared.label.Label.{Label}
use Rattle.disk.specs.Labels.{is_file, free_label}
use Rattle.disk.specs.Media.{Page, label_at, data_at}
use Rattle.survey.specs.Chains.{Naming, leads, is_leader, kept_if, points, joins, same_id, follower, chain, leader_of}
use Rattle.survey.specs.Laws.{Follows}
use Rattle.survey.proofs.Following.{never, not_true, kept_some, kept_from, file_plain, next_in_chain, leader_from, leader_is, has_label, follows, member, Member}
use Rattle.survey.proofs.Leading.{Led, leader_of_is, leader_of_there}
use Rattle.ledger.specs.Frames.{SameChains}
use Rattle.ledger.specs.Mends.{is_chained, page_after, page_before, page_or_none, relinked, mended_label}
use Rattle.ledger.proofs.Framing.{chain_same, free_joins}

-- What is used of the naming of n pages.
pub record Names (name : Naming) (real : ℕ → ℕ) (n : ℕ) : Type 0 where
  pub nought : real 0 ≡ 0
  pub there : (p : ℕ) → p < n → name (real p) ≡ Some p
  pub some_page : 0 < n

-- Each label is the old one or the mended one, and all data is the old.
pub record Between (name : Naming) (real : ℕ → ℕ) (ps qs : List Page) : Type 0 where
  pub count : length qs ≡ length ps
  pub words : (p : ℕ) → data_at qs p ≡ data_at ps p
  pub labels : (p : ℕ) → (label_at qs p ≡ label_at ps p) ⊎ (label_at qs p ≡ mended_label name real ps p)

-- The links of a label play no part in what it is.
file_relinked : (n b : ℕ) (l : Label) → is_file (relinked n b l) ≡ is_file l
file_relinked n b l = file_plain (relinked n b l) ∙ sym (file_plain l)

pub joins_to_relinked : (a : Option Label) (n b : ℕ) (l : Label) → joins a (Some (relinked n b l)) ≡ joins a (Some l)
joins_to_relinked None n b l = refl
joins_to_relinked (Some k) n b l = ap (λ (t : Bool). t && (same_id k l && eqb l.number (k.number + 1))) (file_relinked n b l)

pub joins_from_relinked : (n b : ℕ) (l : Label) (o : Option Label) → joins (Some (relinked n b l)) o ≡ joins (Some l) o
joins_from_relinked n b l None = refl
joins_from_relinked n b l (Some m) = refl

pub leads_relinked : (n b : ℕ) (l : Label) → leads (Some (relinked n b l)) ≡ leads (Some l)
leads_relinked n b l = ap (λ (t : Bool). t && (eqb l.number 0 && eqb l.characters 512)) (file_relinked n b l)

-- Chained by a leader, as a test.
pub chained_led : (name : Naming) (ps : List Page) (p : ℕ) → is_chained name ps p ≡ true → Led name ps (leader_of name ps p) p
chained_led name ps p e = leader_of_is name ps p (ltb-true 0 (leader_of name ps p) e)

pub led_chained : (name : Naming) (ps : List Page) (q p : ℕ) → Led name ps q p → is_chained name ps p ≡ true
led_chained name ps q p l = lt-ltb 0 (leader_of name ps p) (leader_of_there name ps q p l)

pub leader_chained : (name : Naming) (ps : List Page) (q : ℕ) → is_leader ps q ≡ true → is_chained name ps q ≡ true
leader_chained name ps q e = led_chained name ps q q (record { leader = leader_is ps q e; inside = inl refl })

pub chained_member : (name : Naming) (ps : List Page) (p : ℕ) → is_chained name ps p ≡ true → Member ps p
chained_member name ps p e = let l = chained_led name ps p e in member name ps (leader_of name ps p) p l.leader l.inside

pub chained_on : (name : Naming) (ps : List Page) (x y : ℕ) → is_chained name ps x ≡ true → follower name ps x ≡ Some y → is_chained name ps y ≡ true
chained_on name ps x y e f =
    let l = chained_led name ps x e in
    led_chained name ps (leader_of name ps x) y (record { leader = l.leader; inside = next_in_chain name ps (leader_of name ps x) x y l.inside f })

-- What the mended label is, by cases.
pub mended_chained : (name : Naming) (real : ℕ → ℕ) (ps : List Page) (p : ℕ) (l : Label) → is_chained name ps p ≡ true → label_at ps p ≡ Some l → mended_label name real ps p ≡ Some (relinked (real (page_after name ps p)) (real (page_before name ps p)) l)
unfolding mended_label
mended_chained name real ps p l c e =
    let m = chained_member name ps p c in
    rw (lt-ltb 0 p m.above) (rw (c, e))

pub mended_free : (name : Naming) (real : ℕ → ℕ) (ps : List Page) (p : ℕ) (l : Label) → 0 < p → is_chained name ps p ≡ false → label_at ps p ≡ Some l → mended_label name real ps p ≡ Some free_label
unfolding mended_label
mended_free name real ps p l h c e = rw (lt-ltb 0 p h) (rw (c, e))

pub mended_none : (name : Naming) (real : ℕ → ℕ) (ps : List Page) (p : ℕ) → label_at ps p ≡ None → mended_label name real ps p ≡ None
unfolding mended_label
mended_none name real ps p e = rw e (go (ltb 0 p))
  where
    go : (b : Bool) → cond {A = Option Label} b None None ≡ None
    go true = refl
    go false = refl

pub mended_nought : (name : Naming) (real : ℕ → ℕ) (ps : List Page) → mended_label name real ps 0 ≡ label_at ps 0
unfolding mended_label
mended_nought name real ps = refl

-- A page in no chain is no leader.
pub not_leader : (name : Naming) (ps : List Page) (q : ℕ) → is_chained name ps q ≡ false → is_leader ps q ≡ false
not_leader name ps q c = ⊎_elim (λ (e : is_leader ps q ≡ true). not_true (is_chained name ps q) c (leader_chained name ps q e)) (λ (e : is_leader ps q ≡ false). e) (cases_Bool (is_leader ps q))

kept_none : (t : ℕ → Bool) (o : Option ℕ) → ((p : ℕ) → o ≡ Some p → t p ≡ false) → kept_if t o ≡ None
kept_none t None h = refl
kept_none t (Some p) h = ap (λ (b : Bool). cond b (Some p) None) (h p refl)

none_kept : (t : ℕ → Bool) (o : Option ℕ) (p : ℕ) → kept_if t o ≡ None → o ≡ Some p → t p ≡ false
none_kept t o p e k = ⊎_elim (λ (h : t p ≡ true). never (kept_if t o) p e (kept_from t o p k h)) (λ (h : t p ≡ false). h) (cases_Bool (t p))

nowhere : (name : Naming) (l : Label) → name 0 ≡ Some 0 → l.next.word ≡ 0 → points name (Some l) ≡ None
nowhere name l n e = rw (e, n) (go (eqb l.characters 512))
  where
    go : (b : Bool) → cond {A = Option ℕ} b (kept_if (ltb 0) (Some 0)) None ≡ None
    go true = refl
    go false = refl

pub after_some : (name : Naming) (ps : List Page) (x y : ℕ) → follower name ps x ≡ Some y → page_after name ps x ≡ y
unfolding page_after
after_some name ps x y e = ap page_or_none e

pub after_none : (name : Naming) (ps : List Page) (x : ℕ) → follower name ps x ≡ None → page_after name ps x ≡ 0
unfolding page_after
after_none name ps x e = ap page_or_none e

module _ (name : Naming) (real : ℕ → ℕ) (ps qs : List Page) (names : Names name real (length ps)) (w : Between name real ps qs) where
  -- The label of a chained page is the old one or the old one relinked.
  record Relinked (x : ℕ) (l : Label) : Type 0 where
    next : ℕ
    before : ℕ
    is : label_at qs x ≡ Some (relinked next before l)
    why : (next ≡ l.next.word) ⊎ (next ≡ real (page_after name ps x))

  chained_label : (x : ℕ) (l : Label) → is_chained name ps x ≡ true → label_at ps x ≡ Some l → Relinked x l
  chained_label x l c e = ⊎_elim
      (λ (k : label_at qs x ≡ label_at ps x). record { next = l.next.word; before = l.previous.word; is = k ∙ e; why = inl refl })
      (λ (k : label_at qs x ≡ mended_label name real ps x). record { next = real (page_after name ps x); before = real (page_before name ps x); is = k ∙ mended_chained name real ps x l c e; why = inr refl })
      (w.labels x)

  -- What a page in no chain does not join, it does not join now.
  unchained_joins : (a : Option Label) (p : ℕ) → 0 < p → is_chained name ps p ≡ false → joins a (label_at ps p) ≡ false → joins a (label_at qs p) ≡ false
  unchained_joins a p h c e = ⊎_elim
      (λ (k : label_at qs p ≡ label_at ps p). ap (joins a) k ∙ e)
      (λ (k : label_at qs p ≡ mended_label name real ps p). go k (label_at ps p) refl)
      (w.labels p)
    where
      go : label_at qs p ≡ mended_label name real ps p → (o : Option Label) → label_at ps p ≡ o → joins a (label_at qs p) ≡ false
      go k None n = ap (joins a) (k ∙ (mended_none name real ps p n ∙ sym n)) ∙ e
      go k (Some l) n = ap (joins a) (k ∙ mended_free name real ps p l h c n) ∙ free_joins a

  joins_still : (a : Option Label) (p : ℕ) → 0 < p → joins a (label_at ps p) ≡ false → joins a (label_at qs p) ≡ false
  joins_still a p h e = ⊎_elim
      (λ (c : is_chained name ps p ≡ true). let m = chained_member name ps p c in let r = chained_label p m.label c m.at_p in ap (joins a) r.is ∙ (joins_to_relinked a r.next r.before m.label ∙ (ap (joins a) (sym m.at_p) ∙ e)))
      (λ (c : is_chained name ps p ≡ false). unchained_joins a p h c e)
      (cases_Bool (is_chained name ps p))

  name_nought : name 0 ≡ Some 0
  name_nought = ap name (sym names.nought) ∙ names.there 0 names.some_page

  pub follower_kept : (x : ℕ) → is_chained name ps x ≡ true → follower name qs x ≡ follower name ps x
  follower_kept x c = go (chained_member name ps x c) (follower name ps x) refl
    where
      go : Member ps x → (o : Option ℕ) → follower name ps x ≡ o → follower name qs x ≡ follower name ps x
      go m (Some y) f =
          let t = follows name ps x y f in
          let same : Some t.from ≡ Some m.label = sym t.at_q ∙ m.at_p in
          let is : t.from ≡ m.label = cc in
          let r = chained_label x m.label c m.at_p in
          let s = chained_label y t.to (chained_on name ps x y c f) t.at_p in
          kept_from (λ p. joins (label_at qs x) (label_at qs p)) (points name (label_at qs x)) y (pointing t is r) (joining t is r s) ∙ sym f
        where
          pointing : (t : Follows name ps x y) → t.from ≡ m.label → (r : Relinked x m.label) → points name (label_at qs x) ≡ Some y
          pointing t is r =
              let full : m.label.characters ≡ 512 = ap (λ (u : Label). u.characters) (sym is) ∙ t.full in
              let named : name r.next ≡ Some y = ⊎_elim
              (λ (d : r.next ≡ m.label.next.word). ap name (d ∙ ap (λ (u : Label). u.next.word) (sym is)) ∙ t.named)
              (λ (d : r.next ≡ real (page_after name ps x)). ap name (d ∙ ap real (after_some name ps x y f)) ∙ names.there y (has_label ps y t.to t.at_p))
              r.why in
              ap (points name) r.is ∙ rw full (kept_from (ltb 0) (name r.next) y named (lt-ltb 0 y t.above))

          joining : (t : Follows name ps x y) → t.from ≡ m.label → (r : Relinked x m.label) → Relinked y t.to → joins (label_at qs x) (label_at qs y) ≡ true
          joining t is r s =
              ap (λ (a : Option Label). joins a (label_at qs y)) r.is ∙ (joins_from_relinked r.next r.before m.label (label_at qs y)
              ∙ (ap (joins (Some m.label)) s.is ∙ (joins_to_relinked (Some m.label) s.next s.before t.to
              ∙ (ap (λ (a : Option Label). joins a (Some t.to)) (sym m.at_p) ∙ (ap (joins (label_at ps x)) (sym t.at_p) ∙ (kept_some (λ p. joins (label_at ps x) (label_at ps p)) (points name (label_at ps x)) y f).1)))))
      go m None f =
          let r = chained_label x m.label c m.at_p in
          none r r.why ∙ sym f
        where
          none : (r : Relinked x m.label) → (r.next ≡ m.label.next.word) ⊎ (r.next ≡ real (page_after name ps x)) → follower name qs x ≡ None
          none r (inr d) =
              ap (λ (o : Option ℕ). kept_if (λ p. joins (label_at qs x) (label_at qs p)) o)
              (ap (points name) r.is ∙ nowhere name (relinked r.next r.before m.label) name_nought (d ∙ (ap real (after_none name ps x f) ∙ names.nought)))
          none r (inl d) = kept_none (λ p. joins (label_at qs x) (label_at qs p)) (points name (label_at qs x))
              (λ p i. ap (λ (a : Option Label). joins a (label_at qs p)) r.is ∙ (joins_from_relinked r.next r.before m.label (label_at qs p)
              ∙ joins_still (Some m.label) p (above p (points_same r d ∙ i)) (ap (λ (a : Option Label). joins a (label_at ps p)) (sym m.at_p) ∙ none_kept (λ u. joins (label_at ps x) (label_at ps u)) (points name (label_at ps x)) p f (points_same r d ∙ i))))
            where
              points_same : (r : Relinked x m.label) → r.next ≡ m.label.next.word → points name (label_at ps x) ≡ points name (label_at qs x)
              points_same r d = ap (points name) m.at_p ∙ (ap (λ (n : ℕ). points name (Some (relinked n r.before m.label))) (sym d) ∙ sym (ap (points name) r.is))

              above : (p : ℕ) → points name (label_at ps x) ≡ Some p → 0 < p
              above p i = pointed (eqb m.label.characters 512) (sym (ap (points name) m.at_p) ∙ i)
                where
                  pointed : (b : Bool) → cond b (kept_if (ltb 0) (name m.label.next.word)) None ≡ Some p → 0 < p
                  pointed true h = ltb-true 0 p (kept_some (ltb 0) (name m.label.next.word) p h).1
                  pointed false h = never None p refl h

  -- The same leaders.
  pub leaders_kept : (q : ℕ) → is_leader qs q ≡ is_leader ps q
  leaders_kept q = ⊎_elim
      (λ (c : is_chained name ps q ≡ true). let m = chained_member name ps q c in let r = chained_label q m.label c m.at_p in
      ap (λ (b : Bool). ltb 0 q && b) (ap leads r.is ∙ (leads_relinked r.next r.before m.label ∙ ap leads (sym m.at_p))))
      (λ (c : is_chained name ps q ≡ false). ⊎_elim
      (λ (k : label_at qs q ≡ label_at ps q). ap (λ (o : Option Label). ltb 0 q && leads o) k)
      (λ (k : label_at qs q ≡ mended_label name real ps q). unled k c (label_at ps q) refl (cases_lt 0 q))
      (w.labels q))
      (cases_Bool (is_chained name ps q))
    where
      low : (b : Bool) → (b && false) ≡ false
      low true = refl
      low false = refl

      unled : label_at qs q ≡ mended_label name real ps q → is_chained name ps q ≡ false → (o : Option Label) → label_at ps q ≡ o → (0 < q) ⊎ (q ≤ 0) → is_leader qs q ≡ is_leader ps q
      unled k c o e (inr z) = let b : ltb 0 q ≡ false = le-ltb 0 q z in rw b
      unled k c None e (inl h) = ap (λ (u : Option Label). ltb 0 q && leads u) (k ∙ (mended_none name real ps q e ∙ sym e))
      unled k c (Some l) e (inl h) = ap (λ (u : Option Label). ltb 0 q && leads u) (k ∙ mended_free name real ps q l h c e) ∙ (low (ltb 0 q) ∙ sym (not_leader name ps q c))

  -- The same chains.
  pub chain_kept : (q : ℕ) → is_leader ps q ≡ true → chain name qs q ≡ chain name ps q
  chain_kept q e = chain_same name ps qs q (λ x i. follower_kept x (led_chained name ps q x (record { leader = leader_is ps q e; inside = i })))

  pub chains_kept : SameChains name ps qs
  chains_kept = record { leaders = leaders_kept; chains = λ q k. chain_kept q (leader_from ps q k) }

  -- The same of whatever is read off a chained page's label, its links apart.
  pub read_kept : {B : Type 0} (r : Option Label → B) → ((n b : ℕ) (l : Label) → r (Some (relinked n b l)) ≡ r (Some l)) → (x : ℕ) → is_chained name ps x ≡ true → r (label_at qs x) ≡ r (label_at ps x)
  read_kept r h x c =
      let m = chained_member name ps x c in
      let k = chained_label x m.label c m.at_p in
      ap r k.is ∙ (h k.next k.before m.label ∙ ap r (sym m.at_p))
