-- The write rule for a drive over words.
use Rattle.std.proofs.Common.{◌≡◌, ℕ, ◌*◌, ◌<◌, ◌≤◌, Bool, true, false, cond, not, ◌&&◌, ltb, List, Ok, Err, Option, Result, sym, refl, ap, ◌∙◌, subst, inl, inr, arith}
use Rattle.std.proofs.lemmas.Bool.{and_parts, and_from, ltb-true, ltb-false, lt-ltb}
use Rattle.disk.specs.declared.cylinders.Cylinders.{Cylinders}
use Rattle.disk.specs.declared.refusal.Refusal.{Refusal}
use Rattle.disk.specs.Refusals.{hardware}
use Rattle.disk.specs.Media.{Medium, put, Write, after, Goes, Written}
use Rattle.disk.proofs.Tearing.{torn_old}
use Rattle.image.specs.Images.{count, mark, is_shaped, is_image, pages_if, cylinders_if, medium_if, image_medium, has_page, stored, stored_if, goes_if, stays_if, goes_through, stays_on, ExactlyIf, Exactly, Found}
use Rattle.image.proofs.Tables.{image_shaped, mark_small, count_is, pages_on, length_pages, found_same}
use Rattle.image.proofs.Changes.{Fits, put_part}

-- A drive over words: T says whether it has pages in them, S whether it is steady, and takes whether it
-- takes a write to page p.
pub record Kind (T S : List ℕ → Bool) (takes : Bool) (ws : List ℕ) (p : ℕ) : Type 0 where
  pub shaped : T ws ≡ true → is_shaped ws ≡ true
  pub taken : takes ≡ true → T ws ≡ true
  pub fine : takes ≡ true → mark ws (count ws) p ≤ 3
  pub not_steady : takes ≡ false → S ws ≡ false
  pub same_taken : (vs : List ℕ) → is_shaped vs ≡ is_shaped ws → is_image vs ≡ is_image ws → T vs ≡ T ws
  pub same_steady : (vs : List ℕ) → is_shaped vs ≡ is_shaped ws → is_image vs ≡ is_image ws → S vs ≡ S ws

-- The medium after a write that goes through.
put_medium : (T S : List ℕ → Bool) (w : Write) (takes on : Bool) (ws : List ℕ) → Kind T S takes ws w.page → Fits w.part → takes ≡ true → w.page < count ws → medium_if (T (stored ws w.page w.part)) (S (stored ws w.page w.part)) on (stored ws w.page w.part) ≡ after w (medium_if (T ws) (S ws) on ws)
put_medium T S w takes on ws k f h b =
    let vs : List ℕ = stored ws w.page w.part in
    let t = k.taken h in
    let s = k.shaped t in
    let c = put_part ws w.page w.part s (k.fine h) b f in
    let shape : is_shaped vs ≡ is_shaped ws = c.still.shaped ∙ sym s in
    let u = k.same_taken vs shape c.still.image in
    let v = k.same_steady vs shape c.still.image in
    let n : cylinders_if (T vs) vs ≡ cylinders_if (T ws) ws = omega (arith, count_is (T ws) ws t s, count_is (T vs) vs (u ∙ t) c.still.shaped, c.still.first) in
    let q : pages_if (T vs) vs ≡ put (pages_if (T ws) ws) w.page w.part = pages_on (T vs) vs (u ∙ t) ∙ (c.pages ∙ ap (λ ps. put ps w.page w.part) (sym (pages_on (T ws) ws t))) in
    simp (n, q, v) refl

same : (T S : List ℕ → Bool) (later was : Bool) (vs us : List ℕ) → later ≡ was → vs ≡ us → medium_if (T vs) (S vs) later vs ≡ medium_if (T us) (S us) was us
same T S later was vs us a b = ap (λ o. medium_if (T vs) (S vs) o vs) a ∙ ap (λ xs. medium_if (T xs) (S xs) was xs) b

by_value : (w : Write) (m n now : Medium) (r answer : Result (Unit {0}) Refusal) → r ≡ answer → now ≡ n → Written w m answer n → Written w m r now
by_value w m n now r answer a b h = subst (λ (x : Medium). Written w m r x) (sym b) (subst (λ (x : Result (Unit {0}) Refusal). Written w m x n) (sym a) h)

-- The one result of a write keeps the write rule.
pub rule : (T S : List ℕ → Bool) (w : Write) (takes on : Bool) (ws : List ℕ) (r : Result (Unit {0}) Refusal) (later : Bool) (vs : List ℕ) → Kind T S takes ws w.page → Fits w.part → ExactlyIf w (T ws) takes on ws r later vs → Written w (medium_if (T ws) (S ws) on ws) r (medium_if (T vs) (S vs) later vs)
rule T S w takes on ws r later vs k f e = go on (ltb w.page (24 * cylinders_if (T ws) ws)) takes refl refl refl e.answer e.words e.still_on
  where
    goes : on ≡ true → ltb w.page (24 * cylinders_if (T ws) ws) ≡ true → Goes w (medium_if (T ws) (S ws) on ws)
    goes o b = record { on = o; inside = omega (arith, length_pages (T ws) ws k.shaped, ltb-true w.page (24 * cylinders_if (T ws) ws) b) }

    go : (o b t : Bool) → on ≡ o → ltb w.page (24 * cylinders_if (T ws) ws) ≡ b → takes ≡ t → r ≡ cond (o && (b && t)) (Ok tt) (Err (hardware w.page)) → vs ≡ cond (o && (b && t)) (stored ws w.page w.part) ws → later ≡ (o && not (b && not t)) → Written w (medium_if (T ws) (S ws) on ws) r (medium_if (T vs) (S vs) later vs)
    go false b t x y z a n s = by_value w _ _ _ r _ a (same T S later on vs ws (s ∙ sym x) n) (refl, inl (record { why = inr x; same = refl }))
    go true false t x y z a n s =
        by_value w _ _ _ r _ a (same T S later on vs ws (s ∙ sym x) n)
        (refl, inl (record { why = inl (omega (arith, length_pages (T ws) ws k.shaped, ltb-false w.page (24 * cylinders_if (T ws) ws) y)); same = refl }))
    go true true false x y z a n s =
        by_value w _ _ _ r _ a (same T S later false vs ws s n)
        (refl, inr (record { goes = goes x y; not_steady = k.not_steady z; torn = torn_old (pages_if (T ws) ws) (pages_if (T ws) ws) w.page w.part refl; is = refl }))
    go true true true x y z a n s =
        by_value w _ _ _ r _ a (same T S later on vs (stored ws w.page w.part) (s ∙ sym x) n)
        (record { goes = goes x y; is = put_medium T S w takes on ws k f z (omega (arith, count_is (T ws) ws (k.taken z) (k.shaped (k.taken z)), ltb-true w.page (24 * cylinders_if (T ws) ws) y)) })

-- Where an answer says that a write goes through.
pub let_through : (b : Bool) (e : Refusal) (r : Result (Unit {0}) Refusal) (u : Unit {0}) → r ≡ cond b (Ok tt) (Err e) → r ≡ Ok u → b ≡ true
let_through true e r u a h = refl
let_through false e r u a h = cc

-- Then the page is there, and the words that are stored are the result.
pub went : (T S : List ℕ → Bool) (w : Write) (takes on : Bool) (ws : List ℕ) (later : Bool) (us vs : List ℕ) → Kind T S takes ws w.page → goes_if (T ws) takes on ws w.page ≡ true → us ≡ ws → later ≡ stays_if (T ws) takes on ws w.page → vs ≡ stored_if us w.page w.part → ExactlyIf w (T ws) takes on ws (Ok tt) later vs
went T S w takes on ws later us vs k g e s n =
    let a = and_parts on (ltb w.page (24 * cylinders_if (T ws) ws) && takes) g in
    let b = and_parts (ltb w.page (24 * cylinders_if (T ws) ws)) takes a.1 in
    let t = k.taken b.1 in
    let l : w.page < count ws = omega (arith, count_is (T ws) ws t (k.shaped t), ltb-true w.page (24 * cylinders_if (T ws) ws) b.0) in
    let here : has_page ws w.page ≡ true = and_from (is_shaped ws) (ltb w.page (count ws)) (k.shaped t) (lt-ltb w.page (count ws) l) in
    record {
      answer = sym (ap (λ (b : Bool). cond b (Ok tt) (Err (hardware w.page))) g);
      words = n ∙ (ap (λ (xs : List ℕ). stored_if xs w.page w.part) e ∙ (ap (λ (b : Bool). cond b (stored ws w.page w.part) ws) here ∙ sym (ap (λ (b : Bool). cond b (stored ws w.page w.part) ws) g)));
      still_on = s;
    }

-- A drive that has pages in an image only, and takes a write to each.
image_kind : (ws : List ℕ) (p : ℕ) → Kind is_image is_image (is_image ws) ws p
image_kind ws p = record { shaped = λ h. image_shaped ws h; taken = λ h. h; fine = λ h. mark_small ws p h; not_steady = λ h. h; same_taken = λ vs a b. b; same_steady = λ vs a b. b }

pub image_rule : (w : Write) (on : Bool) (ws : List ℕ) (r : Result (Unit {0}) Refusal) (later : Bool) (vs : List ℕ) → Fits w.part → Exactly w on ws r later vs → Written w (image_medium on ws) r (image_medium later vs)
image_rule w on ws r later vs f e = rule is_image is_image w (is_image ws) on ws r later vs (image_kind ws w.page) f e

-- What a write that goes through leaves: the one result, and an image of as many cylinders.
pub record Landed (w : Write) (on : Bool) (ws : List ℕ) (later : Bool) (vs : List ℕ) (o : Option Cylinders) : Type 0 where
  pub rule : Written w (image_medium on ws) (Ok tt) (image_medium later vs)
  pub exactly : Exactly w on ws (Ok tt) later vs
  pub kept : Found (is_image vs) vs o

pub landed : (w : Write) (on : Bool) (ws : List ℕ) (r : Result (Unit {0}) Refusal) (u : Unit {0}) (later : Bool) (us vs : List ℕ) (o : Option Cylinders) → Fits w.part → r ≡ cond (goes_through on ws w.page) (Ok tt) (Err (hardware w.page)) → r ≡ Ok u → us ≡ ws → later ≡ stays_on on ws w.page → vs ≡ stored_if us w.page w.part → Found (is_image us) us o → Landed w on ws later vs o
landed w on ws r u later us vs o f a h e s n k =
    let g = let_through _ _ r u a h in
    let x = went is_image is_image w (is_image ws) on ws later us vs (image_kind ws w.page) g e s n in
    let b = and_parts (ltb w.page (24 * cylinders_if (is_image ws) ws)) (is_image ws) (and_parts on _ g).1 in
    let t = image_shaped ws b.1 in
    let p = put_part ws w.page w.part t (mark_small ws w.page b.1) (omega (arith, count_is (is_image ws) ws b.1 t, ltb-true w.page (24 * cylinders_if (is_image ws) ws) b.0)) f in
    let v : vs ≡ stored ws w.page w.part = x.words ∙ ap (λ (b : Bool). cond b (stored ws w.page w.part) ws) g in
    record {
      rule = image_rule w on ws (Ok tt) later vs f x;
      exactly = x;
      kept = found_same (is_image ws) (is_image vs) ws vs o (ap is_image v ∙ p.still.image) (ap count v ∙ p.still.first) (subst (λ (xs : List ℕ). Found (is_image xs) xs o) e k);
    }
