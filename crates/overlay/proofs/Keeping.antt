-- The slots of a table: finding a page's slot, and keeping a new part in it.
use Rattle.std.proofs.Common.{◌≡◌, ℕ, ◌+◌, ◌-◌, ◌<◌, ◌≤◌, true, false, cond, eqb, ltb, List, [], ◌∷◌, ◌++◌, length, get_or, set, Some, None, Ok, Err, Result, ◌↔◌, sym, refl, ap, ◌∙◌, inl, inr, arith}
use Rattle.std.specs.List.{find, position, refill}
use Rattle.std.specs.Result.{is_ok, IsOk, IsErr, OnOk, OnErr}
use lib.ListN.{length-map}
use Rattle.std.proofs.lemmas.Bool.{cases_Bool, cond-true, cond-false, or_left, or_right, or_from, lt-ltb, le-ltb, ltb-false}
use Rattle.std.proofs.lemmas.List.Sums.{prefix_len-le-length}
use Rattle.std.proofs.lemmas.Grind.{common_steps}
use Rattle.disk.specs.Media.{Part}
use Rattle.overlay.specs.declared.slot.Slot.{Slot}
use Rattle.overlay.specs.Slots.{empty_slot, with_part, slot_of, held_pages, has_slot, room}
use Rattle.overlay.specs.Placing.{opened, stored, place, Opened, Kept}

-- A page's slot as a search finds it.
pub slot_found : (ss : List Slot) (p : ℕ) (s : Slot) → Some s ≡ find (λ t. eqb t.page.page p) ss → s ≡ slot_of ss p
unfolding slot_of
slot_found [] p s e = absurd (grind (arith, common_steps, e))
slot_found (t ∷ ss) p s e =
    elim (cases_Bool (eqb t.page.page p)) [
      | inl f ↦ grind (arith, common_steps, e, f)
      | inr f ↦ grind (arith, common_steps, e, f, slot_found ss p s)
    ]

pub slot_missing : (ss : List Slot) (p : ℕ) → None ≡ find (λ t. eqb t.page.page p) ss → empty_slot p ≡ slot_of ss p
unfolding slot_of
slot_missing [] p e = refl
slot_missing (t ∷ ss) p e =
    elim (cases_Bool (eqb t.page.page p)) [
      | inl f ↦ absurd (grind (arith, common_steps, e, f))
      | inr f ↦ grind (arith, common_steps, e, f, slot_missing ss p)
    ]

pub ruleset slot_is = (slot_found, slot_missing)

-- Where a page's slot stands, and the slots with one of that page.
has_place : (ss : List Slot) (p : ℕ) → has_slot (held_pages ss) p ≡ ltb (place ss p) (length ss)
unfolding has_slot
has_place [] p = refl
has_place (s ∷ ss) p =
    elim (cases_Bool (eqb s.page.page p)) [
      | inl e ↦ grind (arith, common_steps, e)
      | inr e ↦ grind (arith, common_steps, e, has_place ss p)
    ]

opened_as : (ss : List Slot) (p : ℕ) → opened ss p ≡ cond (ltb (place ss p) (length ss)) ss (ss ++ empty_slot p ∷ [])
unfolding opened
opened_as [] p = refl
opened_as (s ∷ ss) p =
    elim (cases_Bool (eqb s.page.page p)) [
      | inl e ↦ grind (arith, common_steps, e)
      | inr e ↦ grind (arith, common_steps, e, opened_as ss p)
    ]

set_opened : (ss : List Slot) (p : ℕ) (x : Part) (d : Slot) → set (opened ss p) (place ss p) (with_part (get_or (opened ss p) (place ss p) d) x) ≡ stored ss p x
unfolding opened stored
set_opened [] p x d = refl
set_opened (s ∷ ss) p x d =
    elim (cases_Bool (eqb s.page.page p)) [
      | inl e ↦ grind (arith, common_steps, e)
      | inr e ↦ grind (arith, common_steps, e, set_opened ss p x d)
    ]

-- Opening the slot that page p has, a new one, and none.
pub open_found : {E : Type 0} (ss : List Slot) (p i : ℕ) → Some i ≡ position (λ s. eqb s.page.page p) ss → Opened {E = E} ss p (Ok i) ss
open_found ss p i e =
    elim (cases_Bool (ltb (place ss p) (length ss))) [
      | inl f ↦
          let h : room (held_pages ss) p ≡ true = or_left (has_slot (held_pages ss) p) _ (has_place ss p ∙ f) in
          record {
            answer = sym h;
            here = grind (arith, common_steps, e, f);
            inside = grind (arith, common_steps, e, f);
            slots = sym (cond-true _ (opened ss p) ss h ∙ (opened_as ss p ∙ cond-true _ ss (ss ++ empty_slot p ∷ []) f));
          }
      | inr f ↦ absurd (grind (arith, common_steps, e, f))
    ]

pub open_new : {D E : Type 0} (ss ts : List Slot) (p cap n : ℕ) (s : Slot) (r : Result (Unit {0}) D) → None ≡ position (λ s. eqb s.page.page p) ss → true ≡ is_ok r → (IsOk r ↔ (length ss < cap)) → cap ≤ 64 → OnOk r (ts ≡ ss ++ s ∷ []) → s ≡ empty_slot p → n ≡ length ts → Opened {E = E} ss p (Ok (n - 1)) ts
open_new ss ts p cap n s (Err d) e g v b o t l = absurd (grind (arith, common_steps, g))
open_new ss ts p cap n s (Ok u) e g v b o t l =
    elim (cases_Bool (ltb (place ss p) (length ss))) [
      | inl f ↦ absurd (grind (arith, common_steps, e, f))
      | inr f ↦
          let h : room (held_pages ss) p ≡ true = or_right (has_slot (held_pages ss) p) _ (lt-ltb _ 64 (omega (arith, v.0 refl, b, length-map ss (λ s. s.page.page)))) in
          let k : length ts ≡ length ss + 1 = grind (arith, common_steps, o) in
          record {
            answer = sym h;
            here = omega (arith, l, k, ltb-false _ _ f, prefix_len-le-length {X = Slot});
            inside = omega (arith, l, k);
            slots = o ∙ (ap (λ x. ss ++ x ∷ []) t ∙ sym (cond-true _ (opened ss p) ss h ∙ (opened_as ss p ∙ cond-false _ ss (ss ++ empty_slot p ∷ []) f)));
          }
    ]

pub open_full : {D E : Type 0} (ss ts : List Slot) (p n : ℕ) (r : Result (Unit {0}) D) (q : Result ℕ E) → None ≡ position (λ s. eqb s.page.page p) ss → false ≡ is_ok r → OnErr r (ts ≡ ss) → OnErr r (length ss ≡ n) → 64 ≤ n → IsErr q → Opened ss p q ts
open_full ss ts p n (Ok u) q e g t l b h = absurd (grind (arith, common_steps, g))
open_full ss ts p n (Err d) (Ok i) e g t l b h = absurd (grind (arith, common_steps, h))
open_full ss ts p n (Err d) (Err x) e g t l b h =
    elim (cases_Bool (ltb (place ss p) (length ss))) [
      | inl f ↦ absurd (grind (arith, common_steps, e, f))
      | inr f ↦
          let m : room (held_pages ss) p ≡ false = or_from (has_slot (held_pages ss) p) _ (has_place ss p ∙ f) (le-ltb (length (held_pages ss)) 64 (omega (arith, l, b, length-map ss (λ s. s.page.page)))) in
          record { answer = sym m; here = tt; inside = tt; slots = t ∙ sym (cond-false _ (opened ss p) ss m) }
    ]

-- A new part in the slot that was opened.
pub kept : {D E : Type 0} (ss ts us : List Slot) (p i : ℕ) (s : Slot) (x : Part) → Opened {E = D} ss p (Ok i) ts → us ≡ ts → s ≡ with_part (get_or us i (empty_slot 0)) x → Kept {E = E} ss p x (Ok tt) (refill (length ts) ts (set us i s))
kept ss ts us p i s x o e f = record {
  answer = o.answer;
  slots =
      let t : ts ≡ opened ss p = o.slots ∙ cond-true _ (opened ss p) ss (sym o.answer) in
      let r : refill (length ts) ts (set ts i s) ≡ set ts i s = grind (arith, common_steps) in
      ap (λ vs. refill (length ts) ts (set vs i s)) e ∙ (r ∙ (grind (arith, common_steps, t, f, e, o.here, set_opened ss p x (empty_slot 0)) ∙ sym (cond-true _ (stored ss p x) ss (sym o.answer))));
}
