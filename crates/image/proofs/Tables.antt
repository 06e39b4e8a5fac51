-- Words of an image's shape by their parts, and what a read finds in them.
use Rattle.std.proofs.Common.{◌≡◌, ℕ, zero, suc, ◌+◌, ◌-◌, ◌*◌, ◌/◌, ◌%◌, ◌<◌, ◌≤◌, Bool, true, false, ◌&&◌, eqb, ltb, leb, List, [], ◌∷◌, length, get_or, take, drop, replicate, Some, None, Option, MatchOption, sym, refl, ap, ◌∙◌, subst, inl, inr, add-zero, lit<, arith}
use Rattle.std.specs.Bool.{then_some}
use Rattle.std.proofs.lemmas.List.FromFn.{length-map-range_with_len, get_or-map-range_with_len}
use Rattle.std.proofs.lemmas.List.{get_or_past, get_or-replicate, length-replicate, get_or-take, get_or-drop, take_all, length-drop}
use Rattle.std.proofs.lemmas.Bool.{and_parts, and_from, eqb-true, eq-eqb, ne_eqb, leb-true, le-leb, ltb-false, lt-ltb, le-ltb, cases_lt, cond-true, cond-false, and_left, true≢false}
use Rattle.disk.specs.declared.cylinders.Cylinders.{Cylinders}
use Rattle.disk.specs.declared.label.Label.{Label}
use Rattle.disk.specs.Labels.{label_from, label_of}
use Rattle.disk.specs.Media.{Page, unreadable, label_at, data_at}
use Rattle.image.specs.Images.{count, agree, pack_size, is_shaped, marks_fine, is_image, mark, page_in, table, pages_if, cylinders_if, has_page, Found}
use Rattle.image.specs.Steps.{Placed}

pub record Shape (ws : List ℕ) : Type 0 where
  pub long : length ws ≡ 3 + 265 * count ws
  pub second : get_or ws (1 + 8 * count ws) 0 ≡ count ws
  pub third : get_or ws (2 + 264 * count ws) 0 ≡ count ws
  pub whole : count ws % 24 ≡ 0
  pub some : 1 ≤ count ws / 24
  pub few : count ws / 24 ≤ 406

pub shape_of : (ws : List ℕ) → is_shaped ws ≡ true → Shape ws
shape_of ws h =
    let a = and_parts (agree ws) (pack_size (count ws / 24)) h in
    let p = and_parts _ _ a.0 in
    let q = and_parts _ _ p.1 in
    let r = and_parts _ _ q.1 in
    let s = and_parts (leb 1 (count ws / 24)) (leb (count ws / 24) 406) a.1 in
    record {
      long = eqb-true _ _ p.0;
      second = eqb-true _ _ q.0;
      third = eqb-true _ _ r.0;
      whole = eqb-true _ _ r.1;
      some = leb-true 1 (count ws / 24) s.0;
      few = leb-true (count ws / 24) 406 s.1;
    }

pub shaped_from : (ws : List ℕ) → Shape ws → is_shaped ws ≡ true
shaped_from ws s =
    and_from (agree ws) (pack_size (count ws / 24))
    (and_from _ _ (eq-eqb _ _ s.long) (and_from _ _ (eq-eqb _ _ s.second) (and_from _ _ (eq-eqb _ _ s.third) (eq-eqb _ _ s.whole))))
    (and_from (leb 1 (count ws / 24)) (leb (count ws / 24) 406) (le-leb 1 (count ws / 24) s.some) (le-leb (count ws / 24) 406 s.few))

-- An image has that shape, and marks to 3.
pub image_shaped : (ws : List ℕ) → is_image ws ≡ true → is_shaped ws ≡ true
unfolding is_image
image_shaped ws h = (and_parts (is_shaped ws) (marks_fine (drop (3 + 264 * count ws) ws)) h).0

pub image_marks : (ws : List ℕ) → is_image ws ≡ true → marks_fine (drop (3 + 264 * count ws) ws) ≡ true
unfolding is_image
image_marks ws h = (and_parts (is_shaped ws) (marks_fine (drop (3 + 264 * count ws) ws)) h).1

pub no_shape : (ws : List ℕ) → is_shaped ws ≡ false → is_image ws ≡ false
unfolding is_image
no_shape ws h = and_left (is_shaped ws) (marks_fine (drop (3 + 264 * count ws) ws)) h

-- Words of that shape are an image if their marks are fine.
pub image_by_marks : (ws : List ℕ) → is_shaped ws ≡ true → is_image ws ≡ marks_fine (drop (3 + 264 * count ws) ws)
unfolding is_image
image_by_marks ws s = ap (λ b. b && marks_fine (drop (3 + 264 * count ws) ws)) s

pub image_is : (ws : List ℕ) (n : ℕ) (b : Bool) → is_shaped ws ≡ true → n ≡ count ws → b ≡ marks_fine (take (length ws - (3 + 264 * n)) (drop (3 + 264 * n) ws)) → is_image ws ≡ b
image_is ws n b s e m =
    image_by_marks ws s ∙ (ap (λ k. marks_fine (drop (3 + 264 * k) ws)) (sym e)
    ∙ (ap marks_fine (sym (take_all (length ws - (3 + 264 * n)) (drop (3 + 264 * n) ws) (omega (arith, length-drop (3 + 264 * n) ws)))) ∙ sym m))

-- The marks of an image are fine one by one.
fine_at : (ms : List ℕ) (p : ℕ) → marks_fine ms ≡ true → get_or ms p 0 ≤ 3
fine_at [] p h = omega arith
fine_at (m ∷ ms) zero h = leb-true m 3 (and_parts (leb m 3) (marks_fine ms) h).0
fine_at (m ∷ ms) (suc p) h = fine_at ms p (and_parts (leb m 3) (marks_fine ms) h).1

pub mark_small : (ws : List ℕ) (p : ℕ) → is_image ws ≡ true → mark ws (count ws) p ≤ 3
mark_small ws p h = subst (λ (m : ℕ). m ≤ 3) (get_or-drop (3 + 264 * count ws) ws p 0) (fine_at (drop (3 + 264 * count ws) ws) p (image_marks ws h))

-- How many cylinders and pages there are in words that are taken for an image or not.
pub cylinders_on : (b : Bool) (ws : List ℕ) (c : ℕ) → b ≡ true → 24 * c ≡ count ws → c ≡ cylinders_if b ws
unfolding cylinders_if
cylinders_on b ws c h e = sym (cond-true b (count ws / 24) 1 h ∙ omega arith)

pub cylinders_off : (b : Bool) (ws : List ℕ) → b ≡ false → cylinders_if b ws ≡ 1
unfolding cylinders_if
cylinders_off b ws h = cond-false b (count ws / 24) 1 h

pub count_is : (b : Bool) (ws : List ℕ) → b ≡ true → is_shaped ws ≡ true → 24 * cylinders_if b ws ≡ count ws
unfolding cylinders_if
count_is b ws h t = let s = shape_of ws t in ap (λ c. 24 * c) (cond-true b (count ws / 24) 1 h) ∙ omega (arith, s.whole)

pub length_table : (ws : List ℕ) → length (table ws) ≡ count ws
unfolding table
length_table ws = length-map-range_with_len (page_in ws (count ws)) 0 (count ws)

pub at_table : (ws : List ℕ) (p : ℕ) (d : Page) → p < count ws → get_or (table ws) p d ≡ page_in ws (count ws) p
unfolding table
at_table ws p d h = get_or-map-range_with_len (page_in ws (count ws)) 0 (count ws) p p d h (omega arith)

pub pages_on : (b : Bool) (ws : List ℕ) → b ≡ true → pages_if b ws ≡ table ws
unfolding pages_if
pages_on b ws h = cond-true b (table ws) (replicate 24 unreadable) h

pub pages_off : (b : Bool) (ws : List ℕ) → b ≡ false → pages_if b ws ≡ replicate 24 unreadable
unfolding pages_if
pages_off b ws h = cond-false b (table ws) (replicate 24 unreadable) h

pub length_pages : (b : Bool) (ws : List ℕ) → (b ≡ true → is_shaped ws ≡ true) → length (pages_if b ws) ≡ 24 * cylinders_if b ws
length_pages true ws t = ap length (pages_on true ws refl) ∙ (length_table ws ∙ sym (count_is true ws refl (t refl)))
length_pages false ws t = ap length (pages_off false ws refl) ∙ (length-replicate 24 unreadable ∙ ap (λ c. 24 * c) (sym (cylinders_off false ws refl)))

-- What a read finds: nothing in words that are not taken for an image, past the last page, or where the
-- mark says so.
shut : (p : ℕ) → get_or (replicate 24 unreadable) p unreadable ≡ unreadable
shut p = elim (cases_lt p 24) [ inl l ↦ get_or-replicate 24 p unreadable unreadable l | inr l ↦ get_or_past (replicate 24 unreadable) p unreadable (omega (arith, length-replicate 24 unreadable)) ]

pub unread : (b : Bool) (ws : List ℕ) (p : ℕ) → b ≡ false → get_or (pages_if b ws) p unreadable ≡ unreadable
unread b ws p h = ap (λ ps. get_or ps p unreadable) (pages_off b ws h) ∙ shut p

pub no_page : (ws : List ℕ) (p : ℕ) → has_page ws p ≡ false → get_or (pages_if (is_shaped ws) ws) p unreadable ≡ unreadable
no_page ws p h = go (is_shaped ws) (ltb p (count ws)) refl refl h
  where
    go : (b l : Bool) → is_shaped ws ≡ b → ltb p (count ws) ≡ l → (b && l) ≡ false → get_or (pages_if (is_shaped ws) ws) p unreadable ≡ unreadable
    go false l e f n = unread (is_shaped ws) ws p e
    go true false e f n = get_or_past (pages_if (is_shaped ws) ws) p unreadable (omega (arith, ltb-false p (count ws) f, length_table ws, ap length (pages_on (is_shaped ws) ws e)))
    go true true e f n = absurd (true≢false n)

near : (ws : List ℕ) (p : ℕ) → is_shaped ws ≡ true → p < count ws → get_or (pages_if (is_shaped ws) ws) p unreadable ≡ page_in ws (count ws) p
near ws p h l = ap (λ ps. get_or ps p unreadable) (pages_on (is_shaped ws) ws h) ∙ at_table ws p unreadable l

-- The eight words of a label.
pub label_is : (l : Label) (a b c d e f g h : ℕ) → a ≡ l.next.word → b ≡ l.previous.word → c ≡ l.blank → d ≡ l.characters → e ≡ l.number → f ≡ l.version → g ≡ l.serial1 → h ≡ l.serial2 → record { next = record { word = a }; previous = record { word = b }; blank = c; characters = d; number = e; version = f; serial1 = g; serial2 = h } ≡ l
label_is l a b c d e f g h p q r s t u v w = simp (p, q, r, s, t, u, v, w) refl

eight : (ws : List ℕ) (i : ℕ) → label_of (take 8 (drop i ws)) ≡ label_from ws i
eight ws i = label_is (label_from ws i) _ _ _ _ _ _ _ _ (at 0 (lit< tt) ∙ ap (λ j. get_or ws j 0) (add-zero i)) (at 1 (lit< tt)) (at 2 (lit< tt)) (at 3 (lit< tt)) (at 4 (lit< tt)) (at 5 (lit< tt)) (at 6 (lit< tt)) (at 7 (lit< tt))
  where
    at : (k : ℕ) → k < 8 → get_or (take 8 (drop i ws)) k 0 ≡ get_or ws (i + k) 0
    at k b = get_or-take 8 (drop i ws) k 0 b ∙ get_or-drop i ws k 0

-- What a read of a page that is there finds, by its mark.
mark_is : (ws : List ℕ) (p a b m : ℕ) → Placed ws p a b m → mark ws (count ws) p ≡ get_or ws m 0
mark_is ws p a b m k = ap (λ j. get_or ws j 0) (sym k.mark)

pub label_hidden : (ws : List ℕ) (p a b m : ℕ) → Placed ws p a b m → get_or ws m 0 % 2 ≡ 1 → label_at (pages_if (is_shaped ws) ws) p ≡ None
unfolding page_in
label_hidden ws p a b m k h =
    ap (λ x. x.label) (near ws p k.shaped k.inside)
    ∙ cond-false (eqb (mark ws (count ws) p % 2) 0) (Some (label_from ws (1 + 8 * p))) None (ne_eqb (mark ws (count ws) p % 2) 0 (λ e. omega (arith, mark_is ws p a b m k)))

pub label_seen : (ws : List ℕ) (p a b m : ℕ) → Placed ws p a b m → (get_or ws m 0 % 2 ≡ 1 → ⊥) → label_at (pages_if (is_shaped ws) ws) p ≡ Some (label_of (take 8 (drop a ws)))
unfolding page_in
label_seen ws p a b m k h =
    ap (λ x. x.label) (near ws p k.shaped k.inside)
    ∙ (cond-true (eqb (mark ws (count ws) p % 2) 0) (Some (label_from ws (1 + 8 * p))) None (eq-eqb (mark ws (count ws) p % 2) 0 (omega (arith, mark_is ws p a b m k)))
    ∙ ap (λ l. Some l) (ap (λ i. label_from ws i) (sym k.label) ∙ sym (eight ws a)))

pub data_hidden : (ws : List ℕ) (p a b m : ℕ) → Placed ws p a b m → 2 ≤ get_or ws m 0 → data_at (pages_if (is_shaped ws) ws) p ≡ None
unfolding page_in
data_hidden ws p a b m k h =
    ap (λ x. x.words) (near ws p k.shaped k.inside)
    ∙ cond-false (ltb (mark ws (count ws) p) 2) (Some (take 256 (drop (2 + 8 * count ws + 256 * p) ws))) None (le-ltb (mark ws (count ws) p) 2 (omega (arith, mark_is ws p a b m k)))

pub data_seen : (ws : List ℕ) (p a b m : ℕ) → Placed ws p a b m → get_or ws m 0 < 2 → data_at (pages_if (is_shaped ws) ws) p ≡ Some (take 256 (drop b ws))
unfolding page_in
data_seen ws p a b m k h =
    ap (λ x. x.words) (near ws p k.shaped k.inside)
    ∙ (cond-true (ltb (mark ws (count ws) p) 2) (Some (take 256 (drop (2 + 8 * count ws + 256 * p) ws))) None (lt-ltb (mark ws (count ws) p) 2 (omega (arith, mark_is ws p a b m k)))
    ∙ ap (λ i. Some (take 256 (drop i ws))) (sym k.words))

pub absent_label : (ws : List ℕ) (p : ℕ) → has_page ws p ≡ false → None ≡ label_at (pages_if (is_shaped ws) ws) p
absent_label ws p h = sym (ap (λ x. x.label) (no_page ws p h))

pub absent_data : (ws : List ℕ) (p : ℕ) → has_page ws p ≡ false → None ≡ data_at (pages_if (is_shaped ws) ws) p
absent_data ws p h = sym (ap (λ x. x.words) (no_page ws p h))

pub ruleset label_read = (absent_label, label_hidden, label_seen)

pub ruleset data_read = (absent_data, data_hidden, data_seen)

-- What is known by the cylinders that were found.
pub size_found : (b : Bool) (ws : List ℕ) (o : Option Cylinders) (r : Cylinders) → Found b ws o → MatchOption o (r.count ≡ 1) (λ c. r ≡ c) → r.count ≡ cylinders_if b ws
size_found b ws None r f e = e ∙ sym (cylinders_off b ws f)
size_found b ws (Some c) r f e = ap (λ x. x.count) e ∙ cylinders_on b ws c.count f.0 f.1

pub no_label : (b : Bool) (ws : List ℕ) (o : Option Cylinders) (p : ℕ) → Found b ws o → o ≡ None → None ≡ label_at (pages_if b ws) p
no_label b ws None p f e = sym (ap (λ x. x.label) (unread b ws p f))
no_label b ws (Some c) p f e = cc

pub no_data : (b : Bool) (ws : List ℕ) (o : Option Cylinders) (p : ℕ) → Found b ws o → o ≡ None → None ≡ data_at (pages_if b ws) p
no_data b ws None p f e = sym (ap (λ x. x.words) (unread b ws p f))
no_data b ws (Some c) p f e = cc

pub found_shape : (ws : List ℕ) (o : Option Cylinders) (c : Cylinders) → Found (is_image ws) ws o → o ≡ Some c → is_shaped ws ≡ true
found_shape ws None c f e = cc
found_shape ws (Some d) c f e = image_shaped ws f.0

pub image_read : (ws : List ℕ) (o : Option Cylinders) (c : Cylinders) → Found (is_image ws) ws o → o ≡ Some c → pages_if (is_shaped ws) ws ≡ pages_if (is_image ws) ws
image_read ws None c f e = cc
image_read ws (Some d) c f e = ap (λ t. pages_if t ws) (image_shaped ws f.0 ∙ sym f.0)

pub ruleset reads = (no_label, no_data, found_shape, image_read)

pub found_fine : (ws : List ℕ) (b : Bool) (c : Cylinders) (o : Option Cylinders) → is_image ws ≡ b → 24 * c.count ≡ count ws → o ≡ then_some b c → Found (is_image ws) ws o
found_fine ws true c o i n e = subst (λ (x : Option Cylinders). Found (is_image ws) ws x) (sym e) (i, n)
found_fine ws false c o i n e = subst (λ (x : Option Cylinders). Found (is_image ws) ws x) (sym e) i

pub found_same : (b d : Bool) (ws vs : List ℕ) (o : Option Cylinders) → d ≡ b → count vs ≡ count ws → Found b ws o → Found d vs o
found_same b d ws vs None e n f = e ∙ f
found_same b d ws vs (Some c) e n f = (e ∙ f.0, f.1 ∙ sym n)
