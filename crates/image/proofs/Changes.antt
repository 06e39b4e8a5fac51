-- What a write does to words of an image's shape, and to their pages.
use Rattle.std.proofs.Common.{◌≡◌, ℕ, zero, suc, ◌+◌, ◌-◌, ◌*◌, ◌/◌, ◌%◌, ◌<◌, ◌≤◌, true, ◌&&◌, eqb, ltb, leb, ◌⊎◌, List, [], ◌∷◌, ◌++◌, length, get_or, take, drop, set, Some, sym, refl, ap, ◌∙◌, subst, inl, inr, add-zero, arith, lit<, length-set}
use Rattle.std.proofs.lemmas.List.{get_or-set_same, get_or-set_other, ext_get_or, get_or-take, get_or-drop, length-take, length-take-le, length-drop, drop-set-add, length-append, get_or_append_left, get_or-append_right}
use Rattle.std.proofs.lemmas.Bool.{eq-eqb, lt-ltb, le-leb, cases_eq, cases_lt}
use Rattle.std.proofs.lemmas.Bool.Decides.{nat_tests}
use Rattle.disk.specs.declared.label.Label.{Label}
use Rattle.disk.specs.Labels.{label_from, words_of}
use Rattle.disk.specs.Media.{Page, Part, unreadable, put, label_at, data_at, a_label, a_data}
use Rattle.image.specs.Images.{count, is_shaped, marks_fine, is_image, mark, label_in, data_in, page_in, table, replaced, stored}
use Rattle.image.proofs.Tables.{shape_of, shaped_from, image_by_marks, length_table, at_table, label_is}

-- The n words from i on lie among the labels or among the data of an image of that many pages.
abbrev Inside : ℕ → ℕ → ℕ → Type 0
Inside pages i n = ((1 ≤ i) × (i + n ≤ 1 + 8 * pages)) ⊎ ((2 + 8 * pages ≤ i) × (i + n ≤ 2 + 264 * pages))

-- ys is xs with the first n of the new words from i on.
record Overwritten (i n : ℕ) (new xs ys : List ℕ) : Type 0 where
  same_length : length ys ≡ length xs
  here : (k : ℕ) → k < n → get_or ys (i + k) 0 ≡ get_or new k 0
  below : (k : ℕ) → k < i → get_or ys k 0 ≡ get_or xs k 0
  above : (k : ℕ) → i + n ≤ k → get_or ys k 0 ≡ get_or xs k 0

replaced_is : (i n : ℕ) (new xs : List ℕ) → length new ≡ n → i + n ≤ length xs → Overwritten i n new xs (replaced i new xs)
replaced_is i n new xs e h =
    let rest : List ℕ = drop (i + length new) xs in
    let lt = length-take-le i xs (omega arith) in
    let ld = length-drop (i + length new) xs in
    let l1 = length-append (take i xs) (new ++ rest) in
    let l2 = length-append new rest in
    record {
      same_length = omega arith;
      here = λ k b. get_or-append_right (take i xs) (new ++ rest) i (i + k) 0 lt (omega arith) ∙ (ap (λ (j : ℕ). get_or (new ++ rest) j 0) {x = i + k - i} {y = k} (omega arith) ∙ get_or_append_left new rest 0 k (omega arith));
      below = λ k b. get_or_append_left (take i xs) (new ++ rest) 0 k (omega arith) ∙ get_or-take i xs k 0 b;
      above = λ k b.
          get_or-append_right (take i xs) (new ++ rest) i k 0 lt (omega arith)
          ∙ (get_or-append_right new rest (length new) (k - i) 0 refl (omega arith)
          ∙ (get_or-drop (i + length new) xs (k - i - length new) 0 ∙ ap (λ (j : ℕ). get_or xs j 0) {x = (i + length new) + (k - i - length new)} {y = k} (omega arith)));
    }

-- Words that keep the shape, of as many pages, and are an image if they were one.
pub record Still (ws vs : List ℕ) : Type 0 where
  pub shaped : is_shaped vs ≡ true
  pub first : count vs ≡ count ws
  pub image : is_image vs ≡ is_image ws

still : (ws vs : List ℕ) → is_shaped ws ≡ true → length vs ≡ length ws → count vs ≡ count ws → get_or vs (1 + 8 * count ws) 0 ≡ get_or ws (1 + 8 * count ws) 0 → get_or vs (2 + 264 * count ws) 0 ≡ get_or ws (2 + 264 * count ws) 0 → marks_fine (drop (3 + 264 * count ws) vs) ≡ marks_fine (drop (3 + 264 * count ws) ws) → Still ws vs
still ws vs h long first second third marks =
    let s = shape_of ws h in
    let i = shaped_from vs
    (record {
      long = long ∙ (s.long ∙ ap (λ k. 3 + 265 * k) (sym first));
      second = ap (λ k. get_or vs (1 + 8 * k) 0) first ∙ (second ∙ (s.second ∙ sym first));
      third = ap (λ k. get_or vs (2 + 264 * k) 0) first ∙ (third ∙ (s.third ∙ sym first));
      whole = ap (λ k. k % 24) first ∙ s.whole;
      some = subst (λ (k : ℕ). 1 ≤ k / 24) (sym first) s.some;
      few = subst (λ (k : ℕ). k / 24 ≤ 406) (sym first) s.few;
    }) in
    record { shaped = i; first = first; image = image_by_marks vs i ∙ (ap (λ k. marks_fine (drop (3 + 264 * k) vs)) first ∙ (marks ∙ sym (image_by_marks ws h))) }

still_both : (us ws vs : List ℕ) → Still us ws → Still ws vs → Still us vs
still_both us ws vs a b = record { shaped = b.shaped; first = b.first ∙ a.first; image = b.image ∙ a.image }

-- A new mark in the place of a fine one.
fine_set : (ms : List ℕ) (p v : ℕ) → v ≤ 3 → get_or ms p 0 ≤ 3 → marks_fine (set ms p v) ≡ marks_fine ms
fine_set [] p v l h = refl
fine_set (m ∷ ms) zero v l h = ap (λ b. b && marks_fine ms) (le-leb v 3 l ∙ sym (le-leb m 3 h))
fine_set (m ∷ ms) (suc p) v l h = ap (λ b. leb m 3 && b) (fine_set ms p v l h)

marked : (ws : List ℕ) (p v : ℕ) → is_shaped ws ≡ true → mark ws (count ws) p ≤ 3 → v ≤ 3 → Still ws (set ws (3 + 264 * count ws + p) v)
marked ws p v h m l =
    let i : ℕ = 3 + 264 * count ws + p in
    still ws (set ws i v) h (length-set ws i v)
    (get_or-set_other ws i 0 v 0 (λ e. omega arith))
    (get_or-set_other ws i (1 + 8 * count ws) v 0 (λ e. omega arith))
    (get_or-set_other ws i (2 + 264 * count ws) v 0 (λ e. omega arith))
    (ap marks_fine (drop-set-add (3 + 264 * count ws) ws p v) ∙ fine_set (drop (3 + 264 * count ws) ws) p v l (subst (λ (k : ℕ). k ≤ 3) (sym (get_or-drop (3 + 264 * count ws) ws p 0)) m))

drop_same : (a : ℕ) (xs ys : List ℕ) → length ys ≡ length xs → ((k : ℕ) → a ≤ k → get_or ys k 0 ≡ get_or xs k 0) → drop a ys ≡ drop a xs
drop_same a xs ys l h =
    ext_get_or 0 (drop a ys) (drop a xs) (simp length-drop (omega (arith, l)))
    (λ i b. get_or-drop a ys i 0 ∙ (h (a + i) (omega arith) ∙ sym (get_or-drop a xs i 0)))

overwritten : (ws vs new : List ℕ) (i n : ℕ) → is_shaped ws ≡ true → Inside (count ws) i n → Overwritten i n new ws vs → Still ws vs
overwritten ws vs new i n h (inl d) a =
    still ws vs h a.same_length (a.below 0 (omega arith)) (a.above (1 + 8 * count ws) (omega arith)) (a.above (2 + 264 * count ws) (omega arith))
    (ap marks_fine (drop_same (3 + 264 * count ws) ws vs a.same_length (λ k b. a.above k (omega arith))))
overwritten ws vs new i n h (inr d) a =
    still ws vs h a.same_length (a.below 0 (omega arith)) (a.below (1 + 8 * count ws) (omega arith)) (a.above (2 + 264 * count ws) (omega arith))
    (ap marks_fine (drop_same (3 + 264 * count ws) ws vs a.same_length (λ k b. a.above k (omega arith))))

-- A table of as many pages, all but one of which are the same, is the table with that one set.
table_set : (ws vs : List ℕ) (p : ℕ) (x : Page) → p < count ws → count vs ≡ count ws → ((q : ℕ) → q < count ws → (q ≡ p → ⊥) → page_in vs (count ws) q ≡ page_in ws (count ws) q) → page_in vs (count ws) p ≡ x → table vs ≡ set (table ws) p x
table_set ws vs p x h n others here =
    ext_get_or unreadable (table vs) (set (table ws) p x) (length_table vs ∙ (n ∙ sym (length_table ws)) ∙ sym (length-set (table ws) p x))
    (λ q l.
    let k : q < count ws = omega (arith, length_table vs, n) in
    let k2 : q < count vs = omega (arith, n) in
    let e : get_or (table vs) q unreadable ≡ page_in vs (count ws) q = at_table vs q unreadable k2 ∙ ap (λ m. page_in vs m q) n in
    elim (cases_eq q p) [
      | inl s ↦ e ∙ (ap (page_in vs (count ws)) s ∙ (here ∙ (sym (get_or-set_same (table ws) p x unreadable (omega (arith, length_table ws))) ∙ ap (λ j. get_or (set (table ws) p x) j unreadable) (sym s))))
      | inr d ↦ e ∙ (others q k d ∙ (sym (at_table ws q unreadable k) ∙ sym (get_or-set_other (table ws) p q x unreadable d)))
    ])

-- The same words there, the same part.
same_part : (a n : ℕ) (xs ys : List ℕ) → length ys ≡ length xs → ((k : ℕ) → a ≤ k → k < a + n → get_or ys k 0 ≡ get_or xs k 0) → take n (drop a ys) ≡ take n (drop a xs)
same_part a n xs ys l h =
    ext_get_or 0 (take n (drop a ys)) (take n (drop a xs))
    (simp (length-take, length-drop) (omega (arith, l)))
    (λ i b.
    let m : i < n = omega (arith, length-take n (drop a ys)) in
    get_or-take n (drop a ys) i 0 m ∙ (get_or-drop a ys i 0 ∙ (h (a + i) (omega arith) (omega arith) ∙ sym (get_or-take n (drop a xs) i 0 m ∙ get_or-drop a xs i 0))))

same_label : (i : ℕ) (ws vs : List ℕ) → ((k : ℕ) → i ≤ k → k < i + 8 → get_or vs k 0 ≡ get_or ws k 0) → label_from vs i ≡ label_from ws i
same_label i ws vs h =
    label_is (label_from ws i) _ _ _ _ _ _ _ _ (h i (omega arith) (omega arith)) (h (i + 1) (omega arith) (omega arith)) (h (i + 2) (omega arith) (omega arith)) (h (i + 3) (omega arith) (omega arith))
    (h (i + 4) (omega arith) (omega arith)) (h (i + 5) (omega arith) (omega arith)) (h (i + 6) (omega arith) (omega arith)) (h (i + 7) (omega arith) (omega arith))

new_label : (i : ℕ) (vs : List ℕ) (l : Label) → ((k : ℕ) → k < 8 → get_or vs (i + k) 0 ≡ get_or (words_of l) k 0) → label_from vs i ≡ l
new_label i vs l h =
    label_is l _ _ _ _ _ _ _ _ (ap (λ j. get_or vs j 0) (sym (add-zero i)) ∙ h 0 (lit< tt)) (h 1 (lit< tt)) (h 2 (lit< tt)) (h 3 (lit< tt)) (h 4 (lit< tt)) (h 5 (lit< tt)) (h 6 (lit< tt)) (h 7 (lit< tt))

new_part : (i n : ℕ) (vs new : List ℕ) → length new ≡ n → i + n ≤ length vs → ((k : ℕ) → k < n → get_or vs (i + k) 0 ≡ get_or new k 0) → take n (drop i vs) ≡ new
new_part i n vs new l b h =
    let long : length (take n (drop i vs)) ≡ n = length-take-le n (drop i vs) (simp length-drop (omega arith)) in
    ext_get_or 0 (take n (drop i vs)) new (long ∙ sym l)
    (λ k c. let m : k < n = omega (arith, long) in get_or-take n (drop i vs) k 0 m ∙ (get_or-drop i vs k 0 ∙ h k m))

-- A page is the same where its words and its mark are.
same_page : (ws vs : List ℕ) (n q : ℕ) → length vs ≡ length ws → mark vs n q ≡ mark ws n q → ((k : ℕ) → 1 + 8 * q ≤ k → k < 1 + 8 * q + 8 → get_or vs k 0 ≡ get_or ws k 0) → ((k : ℕ) → 2 + 8 * n + 256 * q ≤ k → k < 2 + 8 * n + 256 * q + 256 → get_or vs k 0 ≡ get_or ws k 0) → page_in vs n q ≡ page_in ws n q
unfolding page_in
same_page ws vs n q l m a b =
    let x = same_label (1 + 8 * q) ws vs a in
    let y = same_part (2 + 8 * n + 256 * q) 256 ws vs l b in
    simp (m, x, y) refl

labelled_page : (ws vs : List ℕ) (n p : ℕ) (l : Label) → length vs ≡ length ws → mark vs n p ≡ mark ws n p - mark ws n p % 2 → label_from vs (1 + 8 * p) ≡ l → ((k : ℕ) → 2 + 8 * n + 256 * p ≤ k → k < 2 + 8 * n + 256 * p + 256 → get_or vs k 0 ≡ get_or ws k 0) → page_in vs n p ≡ record { label = Some l; words = data_in ws n p }
unfolding page_in
labelled_page ws vs n p l e m a b =
    let y = same_part (2 + 8 * n + 256 * p) 256 ws vs e b in
    let z : eqb (mark vs n p % 2) 0 ≡ true = eq-eqb (mark vs n p % 2) 0 (omega (arith, m)) in
    let t : ltb (mark vs n p) 2 ≡ ltb (mark ws n p) 2 = grind (arith, nat_tests, m) in
    simp (z, t, a, y) refl

filled_page : (ws vs : List ℕ) (n p : ℕ) (d : List ℕ) → mark vs n p ≡ mark ws n p % 2 → take 256 (drop (2 + 8 * n + 256 * p) vs) ≡ d → ((k : ℕ) → 1 + 8 * p ≤ k → k < 1 + 8 * p + 8 → get_or vs k 0 ≡ get_or ws k 0) → page_in vs n p ≡ record { label = label_in ws n p; words = Some d }
unfolding page_in
filled_page ws vs n p d m a b =
    let y = same_label (1 + 8 * p) ws vs b in
    let z : eqb (mark vs n p % 2) 0 ≡ eqb (mark ws n p % 2) 0 = ap (λ x. eqb x 0) (omega (arith, m)) in
    let t : ltb (mark vs n p) 2 ≡ true = lt-ltb (mark vs n p) 2 (omega (arith, m)) in
    simp (z, t, a, y) refl

label_table : (ws vs : List ℕ) (p : ℕ) (l : Label) → is_shaped ws ≡ true → p < count ws → count vs ≡ count ws → Overwritten (1 + 8 * p) 8 (words_of l) (set ws (3 + 264 * count ws + p) (mark ws (count ws) p - mark ws (count ws) p % 2)) vs → table vs ≡ set (table ws) p (record { label = Some l; words = data_in ws (count ws) p })
label_table ws vs p l i h first a =
    let s = shape_of ws i in
    let mp : ℕ = 3 + 264 * count ws + p in
    let v : ℕ = mark ws (count ws) p - mark ws (count ws) p % 2 in
    let long : length vs ≡ length ws = a.same_length ∙ length-set ws mp v in
    let low : (k : ℕ) → k < 1 + 8 * p → get_or vs k 0 ≡ get_or ws k 0 = λ k b. a.below k b ∙ get_or-set_other ws mp k v 0 (λ e. omega arith) in
    let high : (k : ℕ) → 9 + 8 * p ≤ k → (k ≡ mp → ⊥) → get_or vs k 0 ≡ get_or ws k 0 = λ k b d. a.above k (omega arith) ∙ get_or-set_other ws mp k v 0 d in
    let new : mark vs (count ws) p ≡ v = a.above mp (omega arith) ∙ get_or-set_same ws mp v 0 (omega (arith, s.long)) in
    table_set ws vs p _ h first
    (λ q j d. same_page ws vs (count ws) q long (high (3 + 264 * count ws + q) (omega arith) (λ e. omega arith))
    (λ k x y. elim (cases_lt q p) [ inl z ↦ low k (omega arith) | inr z ↦ high k (omega arith) (λ e. omega arith) ])
    (λ k x y. high k (omega arith) (λ e. omega arith)))
    (labelled_page ws vs (count ws) p l long new (new_label (1 + 8 * p) vs l a.here) (λ k x y. high k (omega arith) (λ e. omega arith)))

data_table : (ws vs : List ℕ) (p : ℕ) (d : List ℕ) → is_shaped ws ≡ true → p < count ws → length d ≡ 256 → count vs ≡ count ws → Overwritten (2 + 8 * count ws + 256 * p) 256 d (set ws (3 + 264 * count ws + p) (mark ws (count ws) p % 2)) vs → table vs ≡ set (table ws) p (record { label = label_in ws (count ws) p; words = Some d })
data_table ws vs p d i h full first a =
    let s = shape_of ws i in
    let mp : ℕ = 3 + 264 * count ws + p in
    let at : ℕ = 2 + 8 * count ws + 256 * p in
    let v : ℕ = mark ws (count ws) p % 2 in
    let long : length vs ≡ length ws = a.same_length ∙ length-set ws mp v in
    let low : (k : ℕ) → k < 2 + 8 * count ws + 256 * p → get_or vs k 0 ≡ get_or ws k 0 = λ k b. a.below k b ∙ get_or-set_other ws mp k v 0 (λ e. omega arith) in
    let high : (k : ℕ) → 2 + 8 * count ws + 256 * p + 256 ≤ k → (k ≡ mp → ⊥) → get_or vs k 0 ≡ get_or ws k 0 = λ k b d. a.above k b ∙ get_or-set_other ws mp k v 0 d in
    let new : mark vs (count ws) p ≡ v = a.above mp (omega arith) ∙ get_or-set_same ws mp v 0 (omega (arith, s.long)) in
    table_set ws vs p _ h first
    (λ q j d. same_page ws vs (count ws) q long (high (3 + 264 * count ws + q) (omega arith) (λ e. omega arith))
    (λ k x y. low k (omega arith))
    (λ k x y. elim (cases_lt q p) [ inl z ↦ low k (omega arith) | inr z ↦ high k (omega arith) (λ e. omega arith) ]))
    (filled_page ws vs (count ws) p d new (new_part at 256 vs d full (omega (arith, s.long, long)) a.here) (λ k x y. low k (omega arith)))

-- A part of a page: data are 256 words.
abbrev pub Fits : Part → Type 0
Fits (a_label l) = Unit {0}
Fits (a_data d) = length d ≡ 256

-- What a write of it to a page with a fine mark leaves.
pub record Put (ws : List ℕ) (p : ℕ) (x : Part) (vs : List ℕ) : Type 0 where
  pub still : Still ws vs
  pub pages : table vs ≡ put (table ws) p x

pub put_part : (ws : List ℕ) (p : ℕ) (x : Part) → is_shaped ws ≡ true → mark ws (count ws) p ≤ 3 → p < count ws → Fits x → Put ws p x (stored ws p x)
unfolding page_in
put_part ws p (a_label l) t m b f =
    let v : ℕ = mark ws (count ws) p - mark ws (count ws) p % 2 in
    let mp : ℕ = 3 + 264 * count ws + p in
    let us : List ℕ = set ws mp v in
    let vs : List ℕ = replaced (1 + 8 * p) (words_of l) us in
    let s1 = marked ws p v t m (omega arith) in
    let a = replaced_is (1 + 8 * p) 8 (words_of l) us refl (omega (arith, length-set ws mp v, (shape_of ws t).long)) in
    let s = still_both ws us vs s1 (overwritten us vs (words_of l) (1 + 8 * p) 8 s1.shaped (inl (omega arith, omega (arith, s1.first))) a) in
    let e : data_at (table ws) p ≡ data_in ws (count ws) p = ap (λ x. x.words) (at_table ws p unreadable b) in
    record { still = s; pages = label_table ws vs p l t b s.first a ∙ ap (λ w. set (table ws) p (record { label = Some l; words = w })) (sym e) }
put_part ws p (a_data d) t m b full =
    let v : ℕ = mark ws (count ws) p % 2 in
    let mp : ℕ = 3 + 264 * count ws + p in
    let at : ℕ = 2 + 8 * count ws + 256 * p in
    let us : List ℕ = set ws mp v in
    let vs : List ℕ = replaced at d us in
    let s1 = marked ws p v t m (omega arith) in
    let a = replaced_is at 256 d us full (omega (arith, length-set ws mp v, (shape_of ws t).long)) in
    let s = still_both ws us vs s1 (overwritten us vs d at 256 s1.shaped (inr (omega (arith, s1.first), omega (arith, s1.first))) a) in
    let e : label_at (table ws) p ≡ label_in ws (count ws) p = ap (λ x. x.label) (at_table ws p unreadable b) in
    record { still = s; pages = data_table ws vs p d t b full s.first a ∙ ap (λ w. set (table ws) p (record { label = w; words = Some d })) (sym e) }
