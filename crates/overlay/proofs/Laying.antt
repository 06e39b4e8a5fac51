-- Slots laid over pages: what is read there, and what a write does.
use Rattle.std.proofs.Common.{◌≡◌, ℕ, ◌<◌, ◌≤◌, cond, eqb, ltb, List, [], ◌∷◌, map, length, get_or, set, Some, None, sym, refl, ap, ◌∙◌, inl, inr, arith, length-set}
use Rattle.std.specs.List.{range_with_len}
use Rattle.std.proofs.lemmas.List.FromFn.{length-map-range_with_len, get_or-map-range_with_len}
use Rattle.std.proofs.lemmas.List.{get_or_past, get_or-set_same, get_or-set_other, ext_get_or}
use Rattle.std.proofs.lemmas.Bool.{cases_eq, cases_Bool}
use Rattle.std.proofs.lemmas.Grind.{common_steps}
use Rattle.disk.specs.Media.{Page, unreadable, Part, a_label, a_data, put, label_at, data_at}
use Rattle.overlay.specs.declared.slot.Slot.{Slot}
use Rattle.overlay.specs.Slots.{empty_slot, with_part, slot_of, held_pages, has_slot}
use Rattle.overlay.specs.Placing.{stored}
use Rattle.overlay.specs.Overlays.{else_below, page_over, laid, added}

-- Two lists counted off that differ at one place.
counted_set : {X : Type 0} (f g : ℕ → X) (n p : ℕ) (x d : X) → p < n → ((q : ℕ) → (q ≡ p → ⊥) → g q ≡ f q) → g p ≡ x → map g (range_with_len 0 n) ≡ set (map f (range_with_len 0 n)) p x
counted_set f g n p x d h others here =
    let lf = length-map-range_with_len f 0 n in
    let lg = length-map-range_with_len g 0 n in
    ext_get_or d (map g (range_with_len 0 n)) (set (map f (range_with_len 0 n)) p x) (lg ∙ sym (length-set (map f (range_with_len 0 n)) p x ∙ lf))
    (λ q l.
    let k : q < n = omega (arith, lg) in
    get_or-map-range_with_len g 0 n q q d k (omega arith) ∙
    (elim (cases_eq q p) [
      | inl s ↦ ap g s ∙ (here ∙ (sym (get_or-set_same (map f (range_with_len 0 n)) p x d (omega (arith, lf))) ∙ ap (λ j. get_or (set (map f (range_with_len 0 n)) p x) j d) (sym s)))
      | inr e ↦ others q e ∙ (sym (get_or-map-range_with_len f 0 n q q d k (omega arith)) ∙ sym (get_or-set_other (map f (range_with_len 0 n)) p q x d e))
    ]))

pub length_laid : (ss : List Slot) (ps : List Page) → length (laid ss ps) ≡ length ps
unfolding laid
length_laid ss ps = length-map-range_with_len (λ p. page_over (slot_of ss p) ps p) 0 (length ps)

at_laid : (ss : List Slot) (ps : List Page) (p : ℕ) → p < length ps → get_or (laid ss ps) p unreadable ≡ page_over (slot_of ss p) ps p
unfolding laid
at_laid ss ps p h = get_or-map-range_with_len (λ p. page_over (slot_of ss p) ps p) 0 (length ps) p p unreadable h (omega arith)

past_laid : (ss : List Slot) (ps : List Page) (p : ℕ) → length ps ≤ p → get_or (laid ss ps) p unreadable ≡ unreadable
past_laid ss ps p h = get_or_past (laid ss ps) p unreadable (omega (arith, length_laid ss ps))

-- With no slot, the pages below.
pub laid_none : (ps : List Page) → laid [] ps ≡ ps
unfolding slot_of
laid_none ps = ext_get_or unreadable (laid [] ps) ps (length_laid [] ps) (λ p h. at_laid [] ps p (omega (arith, length_laid [] ps)))

with_part_page : (s : Slot) (x : Part) → (with_part s x).page ≡ s.page
with_part_page s (a_label l) = refl
with_part_page s (a_data d) = refl

-- The slot of a page of which a part is stored, and that of any other page.
stored_here : (ss : List Slot) (p : ℕ) (x : Part) → slot_of (stored ss p x) p ≡ with_part (slot_of ss p) x
unfolding slot_of stored
stored_here [] p x = grind (arith, common_steps, with_part_page (empty_slot p) x)
stored_here (s ∷ ss) p x =
    elim (cases_Bool (eqb s.page.page p)) [
      | inl e ↦ grind (arith, common_steps, e, with_part_page s x)
      | inr e ↦ grind (arith, common_steps, e, stored_here ss p x)
    ]

stored_elsewhere : (ss : List Slot) (p q : ℕ) (x : Part) → (q ≡ p → ⊥) → slot_of (stored ss p x) q ≡ slot_of ss q
unfolding slot_of stored
stored_elsewhere [] p q x d = grind (arith, common_steps, d, with_part_page (empty_slot p) x)
stored_elsewhere (s ∷ ss) p q x d =
    elim (cases_Bool (eqb s.page.page p)) [
      | inl e ↦ grind (arith, common_steps, e, d, with_part_page s x)
      | inr e ↦ grind (arith, common_steps, e, stored_elsewhere ss p q x d)
    ]

-- So storing a part puts it on the page, and gives the page a slot.
pub laid_stored : (ss : List Slot) (ps : List Page) (p : ℕ) (x : Part) → p < length ps → laid (stored ss p x) ps ≡ put (laid ss ps) p x
unfolding laid
laid_stored ss ps p (a_label l) h =
    counted_set (λ q. page_over (slot_of ss q) ps q) (λ q. page_over (slot_of (stored ss p (a_label l)) q) ps q) (length ps) p _ unreadable h
    (λ q d. ap (λ s. page_over s ps q) (stored_elsewhere ss p q (a_label l) d))
    (ap (λ s. page_over s ps p) (stored_here ss p (a_label l)) ∙ ap (λ w. record { label = Some l; words = w }) (sym (ap (λ y. y.words) (at_laid ss ps p h))))
laid_stored ss ps p (a_data d) h =
    counted_set (λ q. page_over (slot_of ss q) ps q) (λ q. page_over (slot_of (stored ss p (a_data d)) q) ps q) (length ps) p _ unreadable h
    (λ q e. ap (λ s. page_over s ps q) (stored_elsewhere ss p q (a_data d) e))
    (ap (λ s. page_over s ps p) (stored_here ss p (a_data d)) ∙ ap (λ k. record { label = k; words = Some d }) (sym (ap (λ y. y.label) (at_laid ss ps p h))))

pub held_stored : (ss : List Slot) (p : ℕ) (x : Part) → held_pages (stored ss p x) ≡ added (held_pages ss) p
unfolding stored has_slot
held_stored [] p x = grind (arith, common_steps, with_part_page (empty_slot p) x)
held_stored (s ∷ ss) p x =
    elim (cases_Bool (eqb s.page.page p)) [
      | inl e ↦ grind (arith, common_steps, e, with_part_page s x)
      | inr e ↦ grind (arith, common_steps, e, held_stored ss p x)
    ]

-- What a read of a page answers: the part in its slot, or else the part below; past the last page, nothing.
pub label_laid : (ss : List Slot) (ps : List Page) (p : ℕ) → label_at (laid ss ps) p ≡ cond (ltb p (length ps)) (else_below (slot_of ss p).label (label_at ps p)) None
label_laid ss ps p = grind (arith, common_steps, at_laid ss ps p, past_laid ss ps p)

pub data_laid : (ss : List Slot) (ps : List Page) (p : ℕ) → data_at (laid ss ps) p ≡ cond (ltb p (length ps)) (else_below (slot_of ss p).words (data_at ps p)) None
data_laid ss ps p = grind (arith, common_steps, at_laid ss ps p, past_laid ss ps p)
