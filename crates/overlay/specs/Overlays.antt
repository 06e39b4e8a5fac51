-- What an overlay means, and what a write to it does.
use Rattle.std.specs.Prelude.{◌≡◌, ℕ, Bool, false, cond, not, ◌&&◌, ◌||◌, List, [], ◌∷◌, ◌++◌, map, length, Some, None, Ok, Err, Option, Result, nat_lt}
use Rattle.std.specs.List.{range_with_len}
use Rattle.disk.specs.declared.refusal.Refusal.{Refusal}
use Rattle.disk.specs.Media.{Page, label_at, data_at, Medium, Write, put}
use Rattle.disk.specs.Refusals.{hardware}
use Rattle.overlay.specs.declared.slot.Slot.{Slot}
use Rattle.overlay.specs.declared.table.SlotTable.{SlotTable}
use Rattle.overlay.specs.declared.Overlay.{Overlay}
use Rattle.overlay.specs.Slots.{slot_of, has_slot, held_pages, room}

-- What is new, or else what stands below.
abbrev pub else_below : {X : Type 0} → Option X → Option X → Option X
else_below (Some x) y = Some x
else_below None y = y

-- Page p with that slot laid over it.
abbrev pub page_over : Slot → List Page → ℕ → Page
page_over s ps p = record { label = else_below s.label (label_at ps p); words = else_below s.words (data_at ps p) }

-- The pages below with the slots laid over.
unfoldable pub laid : List Slot → List Page → List Page
laid ss ps = map (λ p. page_over (slot_of ss p) ps p) (range_with_len 0 (length ps))

-- An overlay with those slots, over that medium. It is never steady.
abbrev pub overlay_medium : List Slot → Medium → Bool → Medium
overlay_medium ss below on = record { cylinders = below.cylinders; pages = laid ss below.pages; on = on; steady = false }

-- The slots of a table.
abbrev pub held : SlotTable → List Slot
held t = t.slots.items

-- What an overlay means by what its reader means, and the pages that have a slot in it.
abbrev pub medium_over : {R : Type 0} → (R → Medium) → Overlay R → Medium
medium_over below d = overlay_medium (held d.table) (below d.below) d.on

abbrev pub pages_held : {R : Type 0} → Overlay R → List ℕ
pages_held d = held_pages (held d.table)

-- The pages qs, with page p at their end unless it is there.
abbrev pub added : List ℕ → ℕ → List ℕ
added qs p = cond (has_slot qs p) qs (qs ++ p ∷ [])

-- Whether a write goes through: the drive is on and has the page, and the page has a slot or can have one.
abbrev pub goes : Write → List ℕ → Medium → Bool
goes w qs m = m.on && (nat_lt w.page (length m.pages) && room qs w.page)

-- The one result of a write to an overlay in which the pages qs have a slot; later the pages rs have.
-- It turns off exactly when a page that it has would need a 65th slot.
pub record Exactly (w : Write) (qs : List ℕ) (before : Medium) (r : Result (Unit {0}) Refusal) (rs : List ℕ) (later : Medium) : Type 0 where
  pub answer : r ≡ cond (goes w qs before) (Ok tt) (Err (hardware w.page))
  pub pages : later.pages ≡ cond (goes w qs before) (put before.pages w.page w.part) before.pages
  pub on : later.on ≡ (before.on && (not (nat_lt w.page (length before.pages)) || room qs w.page))
  pub held : rs ≡ cond (goes w qs before) (added qs w.page) qs
