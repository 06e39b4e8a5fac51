-- The slots of an overlay: what a page's slot holds, and which pages have one.
use Rattle.std.specs.Prelude.{ℕ, Bool, false, cond, ◌||◌, List, [], ◌∷◌, map, length, Some, None, ◌==◌, nat_lt}
use Rattle.disk.specs.Media.{Part, a_label, a_data}
use Rattle.overlay.specs.declared.slot.Slot.{Slot}

-- A slot of page p with nothing new in it.
abbrev pub empty_slot : ℕ → Slot
empty_slot p = record { page = record { page = p }; label = None; words = None }

-- The slot with a new label or with new data, its other part as it was.
abbrev pub with_part : Slot → Part → Slot
with_part s (a_label l) = record { page = s.page; label = Some l; words = s.words }
with_part s (a_data d) = record { page = s.page; label = s.label; words = Some d }

-- The first slot of page p, or an empty one.
unfoldable pub slot_of : List Slot → ℕ → Slot
slot_of [] p = empty_slot p
slot_of (s ∷ ss) p = cond (s.page.page == p) s (slot_of ss p)

-- The pages that have a slot.
abbrev pub held_pages : List Slot → List ℕ
held_pages ss = map (λ s. s.page.page) ss

unfoldable pub has_slot : List ℕ → ℕ → Bool
has_slot [] p = false
has_slot (q ∷ qs) p = q == p || has_slot qs p

-- Whether page p has a slot or can have one: there are 64.
abbrev pub room : List ℕ → ℕ → Bool
room held p = has_slot held p || nat_lt (length held) 64
