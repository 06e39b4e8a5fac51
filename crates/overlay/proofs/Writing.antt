-- The three ways of a write to an overlay: refused as it stands, kept, and refused for want of a slot.
use Rattle.std.proofs.Common.{◌≡◌, ◌≤◌, Bool, true, false, ◌&&◌, ltb, ◌⊎◌, List, length, Ok, Err, Result, MatchResult, IsErrAnd, is_ok, sym, refl, ap, ◌∙◌, subst, inl, inr, arith}
use Rattle.std.proofs.lemmas.Grind.{common_steps}
use Rattle.std.proofs.lemmas.Bool.{ltb-true, ltb-false, cond-true, cond-false, and_parts}
use Rattle.disk.specs.declared.refusal.Refusal.{Refusal}
use Rattle.disk.specs.Media.{Medium, put, Write, Written}
use Rattle.disk.specs.Refusals.{hardware}
use Rattle.disk.proofs.Tearing.{torn_old}
use Rattle.overlay.specs.declared.slot.Slot.{Slot}
use Rattle.overlay.specs.Slots.{held_pages}
use Rattle.overlay.specs.Placing.{stored, Kept}
use Rattle.overlay.specs.Overlays.{laid, overlay_medium, added, Exactly}
use Rattle.overlay.proofs.Laying.{length_laid, laid_stored, held_stored}

-- What the write w promises, by the slots before and after it.
pub record Outcome (w : Write) (m : Medium) (ss : List Slot) (on : Bool) (r : Result (Unit {0}) Refusal) (ts : List Slot) (later : Bool) : Type 0 where
  pub rule : Written w (overlay_medium ss m on) r (overlay_medium ts m later)
  pub exactly : Exactly w (held_pages ss) (overlay_medium ss m on) r (held_pages ts) (overlay_medium ts m later)

why : (w : Write) (m : Medium) (ss : List Slot) (on : Bool) → false ≡ (on && ltb w.page (length m.pages)) → (length (laid ss m.pages) ≤ w.page) ⊎ (on ≡ false)
why w m ss true e = inl (omega (arith, length_laid ss m.pages, ltb-false _ _ (sym e)))
why w m ss false e = inr refl

-- The drive is off or lacks the page.
pub refused : (w : Write) (m : Medium) (ss : List Slot) (on : Bool) → false ≡ (on && ltb w.page (length m.pages)) → Outcome w m ss on (Err (hardware w.page)) ss on
refused w m ss on e =
    record {
      rule = (refl, inl (record { why = why w m ss on e; same = refl }));
      exactly = record {
        answer = grind (arith, common_steps, length_laid ss m.pages, e);
        pages = grind (arith, common_steps, length_laid ss m.pages, e);
        on = grind (arith, common_steps, length_laid ss m.pages, e);
        held = grind (arith, common_steps, length_laid ss m.pages, e);
      };
    }

-- The page has a slot or gets one.
was_kept : (w : Write) (m : Medium) (ss ts : List Slot) (on : Bool) (E : Type 0) → true ≡ (on && ltb w.page (length m.pages)) → Kept {E = E} ss w.page w.part (Ok tt) ts → Outcome w m ss on (Ok tt) ts on
was_kept w m ss ts on E q k =
    let a = and_parts on _ (sym q) in
    let h = ltb-true w.page (length m.pages) a.1 in
    let l = length_laid ss m.pages in
    let s : ts ≡ stored ss w.page w.part = k.slots ∙ cond-true _ (stored ss w.page w.part) ss (sym k.answer) in
    let new : laid ts m.pages ≡ put (laid ss m.pages) w.page w.part = ap (λ us. laid us m.pages) s ∙ laid_stored ss m.pages w.page w.part h in
    let held : held_pages ts ≡ added (held_pages ss) w.page = ap held_pages s ∙ held_stored ss w.page w.part in
    record {
      rule = record {
        goes = record { on = a.0; inside = omega (arith, l, h) };
        is = ap (λ ps. record { cylinders = m.cylinders; pages = ps; on = on; steady = false }) new;
      };
      exactly = record {
        answer = grind (arith, common_steps, l, q, k.answer);
        pages = grind (arith, common_steps, l, q, k.answer, new);
        on = grind (arith, common_steps, l, q, k.answer);
        held = grind (arith, common_steps, l, q, k.answer, held);
      };
    }

-- The page would need a slot that is not there.
full : (w : Write) (m : Medium) (ss ts : List Slot) (on : Bool) (E : Type 0) (d : E) → true ≡ (on && ltb w.page (length m.pages)) → Kept {E = E} ss w.page w.part (Err d) ts → Outcome w m ss on (Err (hardware w.page)) ts false
full w m ss ts on E d q k =
    let a = and_parts on _ (sym q) in
    let l = length_laid ss m.pages in
    let s : ts ≡ ss = k.slots ∙ cond-false _ (stored ss w.page w.part) ss (sym k.answer) in
    let old : laid ts m.pages ≡ laid ss m.pages = ap (λ us. laid us m.pages) s in
    record {
      rule = (
        refl,
        inr (record {
          goes = record { on = a.0; inside = omega (arith, l, ltb-true w.page (length m.pages) a.1) };
          not_steady = refl;
          torn = torn_old (laid ss m.pages) (laid ts m.pages) w.page w.part old;
          is = refl;
        }),
      );
      exactly = record {
        answer = grind (arith, common_steps, l, q, k.answer);
        pages = grind (arith, common_steps, l, q, k.answer, old);
        on = grind (arith, common_steps, l, q, k.answer);
        held = grind (arith, common_steps, l, q, k.answer, s);
      };
    }

-- What the table answers decides: kept, or refused and the drive turned off.
pub by_table : (w : Write) (m : Medium) (ss ts : List Slot) (on : Bool) (E : Type 0) (k : Result (Unit {0}) E) (r : Result (Unit {0}) Refusal) (later : Bool) → true ≡ (on && ltb w.page (length m.pages)) → Kept {E = E} ss w.page w.part k ts → later ≡ is_ok k → MatchResult k (λ x. r ≡ Ok x) (λ d. IsErrAnd r (λ e. e ≡ hardware w.page)) → Outcome w m ss on r ts later
by_table w m ss ts on E (Ok u) (Ok v) later q k l a = subst (λ (b : Bool). Outcome w m ss on (Ok tt) ts b) ((and_parts on _ (sym q)).0 ∙ sym l) (was_kept w m ss ts on E q k)
by_table w m ss ts on E (Ok u) (Err e) later q k l a = cc
by_table w m ss ts on E (Err d) (Ok v) later q k l a = absurd a
by_table w m ss ts on E (Err d) (Err e) later q k l a = rw (a, l) (full w m ss ts on E d q k)
