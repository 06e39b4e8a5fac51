-- What drives over words have and take, and the write rule for them.
use Rattle.std.proofs.Common.{◌≡◌, ℕ, ◌*◌, Bool, true, false, cond, ◌&&◌, leb, List, length, Some, None, Ok, Err, Option, Result, MatchOption, is_ok, sym, refl, ap, ◌∙◌, subst}
use Rattle.std.proofs.lemmas.Bool.{and_parts, and_from, and_left, and_right, leb-true, le-leb, true≢false}
use Rattle.std.proofs.Math.Bool.{and_self}
use Rattle.disk.specs.declared.cylinders.Cylinders.{Cylinders}
use Rattle.disk.specs.declared.refusal.Refusal.{Refusal}
use Rattle.disk.specs.Refusals.{hardware}
use Rattle.disk.specs.Media.{Write, Written, label_at, data_at}
use Rattle.image.specs.Images.{count, mark, is_shaped, is_image, image_medium, pages_if, has_page, mark_at, stored_if, cylinders_if, Found, Opened}
use Rattle.image.proofs.Tables.{image_shaped, mark_small, count_is, unread, found_same, size_found, length_pages}
use Rattle.image.proofs.Changes.{Fits}
use Rattle.image.proofs.Rules.{Kind, rule, let_through, went}
use Rattle.image_copy.specs.Drives.{has_pages, drive_medium, is_inside, takes, goes_through, stays_on, Exactly}

pub has_is : (opened : Bool) (ws : List ℕ) → opened ≡ true → has_pages opened ws ≡ is_shaped ws
unfolding has_pages
has_is opened ws h = ap (λ b. b && is_shaped ws) h

pub shut_has : (opened : Bool) (ws : List ℕ) → opened ≡ false → has_pages opened ws ≡ false
unfolding has_pages
shut_has opened ws h = and_left opened (is_shaped ws) h

pub has_shape : (opened : Bool) (ws : List ℕ) → has_pages opened ws ≡ true → is_shaped ws ≡ true
unfolding has_pages
has_shape opened ws h = (and_parts opened (is_shaped ws) h).1

-- What a read of a drive finds: nothing where it opened no image, else what the words hold.
pub shut_label : (opened : Bool) (ws : List ℕ) (p : ℕ) → opened ≡ false → None ≡ label_at (pages_if (has_pages opened ws) ws) p
shut_label opened ws p h = sym (ap (λ x. x.label) (unread (has_pages opened ws) ws p (shut_has opened ws h)))

pub shut_data : (opened : Bool) (ws : List ℕ) (p : ℕ) → opened ≡ false → None ≡ data_at (pages_if (has_pages opened ws) ws) p
shut_data opened ws p h = sym (ap (λ x. x.words) (unread (has_pages opened ws) ws p (shut_has opened ws h)))

pub open_pages : (opened : Bool) (ws : List ℕ) → opened ≡ true → pages_if (is_shaped ws) ws ≡ pages_if (has_pages opened ws) ws
open_pages opened ws h = ap (λ b. pages_if b ws) (sym (has_is opened ws h))

pub ruleset reads = (shut_label, shut_data, open_pages)

-- The cylinders that are found there.
pub open_found : (opened : Bool) (ws : List ℕ) (o : Option Cylinders) → opened ≡ true → Found (is_shaped ws) ws o → Found (has_pages opened ws) ws o
open_found opened ws o h f = found_same (is_shaped ws) (has_pages opened ws) ws ws o (has_is opened ws h) refl f

pub ruleset sizes = (open_found, shut_has)

pub told_size : (opened : Bool) (ws : List ℕ) (o : Option Cylinders) (r : Cylinders) → Found (has_pages opened ws) ws o → MatchOption o (r.count ≡ 1) (λ c. r ≡ c) → r.count ≡ cylinders_if (has_pages opened ws) ws
told_size opened ws o r f e = size_found (has_pages opened ws) ws o r f e

pub told_pages : (opened : Bool) (ws : List ℕ) → length (pages_if (has_pages opened ws) ws) ≡ 24 * cylinders_if (has_pages opened ws) ws
told_pages opened ws = length_pages (has_pages opened ws) ws (has_shape opened ws)

pub ruleset told = (told_size, told_pages)

-- Words that were an image have the pages of that image.
pub opened_has : (opened : Bool) (ws : List ℕ) → (opened && is_image ws) ≡ true → has_pages opened ws ≡ is_image ws
opened_has opened ws h =
    let a = and_parts opened (is_image ws) h in
    has_is opened ws a.0 ∙ (image_shaped ws a.1 ∙ sym a.1)

new_has : (ws : List ℕ) → has_pages (is_image ws) ws ≡ is_image ws
new_has ws = go (is_image ws) refl
  where
    go : (b : Bool) → is_image ws ≡ b → has_pages b ws ≡ b
    go true h = has_is true ws refl ∙ image_shaped ws h
    go false h = shut_has false ws refl

-- Whether opening the words succeeds says whether they are an image.
pub opened_is : (ws : List ℕ) (r : Result Cylinders Refusal) → Opened ws r → is_ok r ≡ is_image ws
opened_is ws (Ok c) h = sym h.0
opened_is ws (Err e) h = sym h.0

-- A new drive means the image.
pub new_medium : (opened on : Bool) (ws : List ℕ) → opened ≡ is_image ws → drive_medium opened on ws ≡ image_medium on ws
new_medium opened on ws e = ap (λ o. drive_medium o on ws) e ∙ go (new_has ws) (and_self (is_image ws))
  where
    go : has_pages (is_image ws) ws ≡ is_image ws → (is_image ws && is_image ws) ≡ is_image ws → drive_medium (is_image ws) on ws ≡ image_medium on ws
    go a b = simp (a, b) refl

-- A steady drive takes a write to every page.
not_steady : (opened : Bool) (ws : List ℕ) (p : ℕ) → takes opened ws p ≡ false → (opened && is_image ws) ≡ false
unfolding takes
not_steady opened ws p h = go (opened && is_image ws) refl
  where
    go : (b : Bool) → (opened && is_image ws) ≡ b → b ≡ false
    go true e =
        let a = and_parts opened (is_image ws) e in
        absurd (true≢false (sym (and_from (has_pages opened ws) (leb (mark ws (count ws) p) 3) (opened_has opened ws e ∙ a.1) (le-leb (mark ws (count ws) p) 3 (mark_small ws p a.1))) ∙ h))
    go false e = refl

-- A write is taken where there is that page with a fine mark, and nowhere by a drive that opened no image.
by_mark : (o : Option ℕ) (r b : Bool) (m : ℕ) → o ≡ cond b (Some m) None → MatchOption o (r ≡ false) (λ x. r ≡ leb x 3) → r ≡ (b && leb m 3)
by_mark o r true m e h = subst (λ (x : Option ℕ). MatchOption x (r ≡ false) (λ y. r ≡ leb y 3)) e h
by_mark o r false m e h = subst (λ (x : Option ℕ). MatchOption x (r ≡ false) (λ y. r ≡ leb y 3)) e h

pub takes_by_mark : (opened : Bool) (ws : List ℕ) (p : ℕ) (o : Option ℕ) (r : Bool) → opened ≡ true → o ≡ mark_at ws p → MatchOption o (r ≡ false) (λ x. r ≡ leb x 3) → r ≡ (is_inside opened ws p && takes opened ws p)
unfolding takes
takes_by_mark opened ws p o r h e f = by_mark o r (has_page ws p) (mark ws (count ws) p) e f ∙ go (is_shaped ws) refl
  where
    go : (s : Bool) → is_shaped ws ≡ s → (has_page ws p && leb (mark ws (count ws) p) 3) ≡ (is_inside opened ws p && (has_pages opened ws && leb (mark ws (count ws) p) 3))
    go true s =
        let t = has_is opened ws h ∙ s in
        let n = count_is true ws refl s in
        simp (n, t, s) refl
    go false s = let t = has_is opened ws h ∙ s in simp (t, s) (sym (and_right _ false refl))

pub takes_none : (opened : Bool) (ws : List ℕ) (p : ℕ) → opened ≡ false → opened ≡ (is_inside opened ws p && takes opened ws p)
unfolding takes
takes_none opened ws p h = h ∙ sym (and_right (is_inside opened ws p) _ (and_left (has_pages opened ws) (leb (mark ws (count ws) p) 3) (shut_has opened ws h)))

drive_kind : (opened : Bool) (ws : List ℕ) (p : ℕ) → Kind (has_pages opened) (λ (vs : List ℕ). opened && is_image vs) (takes opened ws p) ws p
unfolding has_pages takes
drive_kind opened ws p = record {
  shaped = λ h. has_shape opened ws h;
  taken = λ h. (and_parts (has_pages opened ws) (leb (mark ws (count ws) p) 3) h).0;
  fine = λ h. leb-true (mark ws (count ws) p) 3 (and_parts (has_pages opened ws) (leb (mark ws (count ws) p) 3) h).1;
  not_steady = λ h. not_steady opened ws p h;
  same_taken = λ vs a b. ap (λ s. opened && s) a;
  same_steady = λ vs a b. ap (λ i. opened && i) b;
}

pub drive_rule : (w : Write) (opened later_opened on : Bool) (ws : List ℕ) (r : Result (Unit {0}) Refusal) (later : Bool) (vs : List ℕ) → Fits w.part → later_opened ≡ opened → Exactly w opened on ws r later vs → Written w (drive_medium opened on ws) r (drive_medium later_opened later vs)
drive_rule w opened later_opened on ws r later vs f o e =
    let m = rule (has_pages opened) (λ (vs : List ℕ). opened && is_image vs) w (takes opened ws w.page) on ws r later vs (drive_kind opened ws w.page) f e in
    subst (λ (b : Bool). Written w (drive_medium opened on ws) r (drive_medium b later vs)) (sym o) m

-- The one result of a write that is let through.
pub landed : (w : Write) (opened on : Bool) (ws : List ℕ) (r : Result (Unit {0}) Refusal) (u : Unit {0}) (later : Bool) (us vs : List ℕ) → r ≡ cond (goes_through opened on ws w.page) (Ok tt) (Err (hardware w.page)) → r ≡ Ok u → us ≡ ws → later ≡ stays_on opened on ws w.page → vs ≡ stored_if us w.page w.part → Exactly w opened on ws (Ok tt) later vs
landed w opened on ws r u later us vs a h e s n =
    went (has_pages opened) (λ (vs : List ℕ). opened && is_image vs) w (takes opened ws w.page) on ws later us vs (drive_kind opened ws w.page) (let_through _ _ r u a h) e s n
