-- How the table finds a page's slot and keeps a part in it.
use Rattle.std.specs.Prelude.{◌≡◌, ℕ, ◌<◌, cond, List, [], ◌∷◌, length, Result, ◌==◌, IfOk}
use Rattle.std.specs.List.{position_or_len}
use Rattle.std.specs.Result.{is_ok}
use Rattle.disk.specs.Media.{Part}
use Rattle.overlay.specs.declared.slot.Slot.{Slot}
use Rattle.overlay.specs.Slots.{empty_slot, with_part, held_pages, room}

-- The slots with an empty one for page p at their end, unless it has a slot.
unfoldable pub opened : List Slot → ℕ → List Slot
opened [] p = empty_slot p ∷ []
opened (s ∷ ss) p = cond (s.page.page == p) (s ∷ ss) (s ∷ opened ss p)

-- The slots with that part new in the slot of page p, which is added at their end where it has none.
unfoldable pub stored : List Slot → ℕ → Part → List Slot
stored [] p x = with_part (empty_slot p) x ∷ []
stored (s ∷ ss) p x = cond (s.page.page == p) (with_part s x ∷ ss) (s ∷ stored ss p x)

-- Where the first slot of page p stands, or the place behind the last slot.
abbrev pub place : List Slot → ℕ → ℕ
place ss p = position_or_len (λ s. s.page.page == p) ss

-- What opening a slot for page p answers, and the slots after it.
pub record Opened {E : Type 0} (ss : List Slot) (p : ℕ) (r : Result ℕ E) (ts : List Slot) : Type 0 where
  pub answer : is_ok r ≡ room (held_pages ss) p
  pub here : IfOk r (λ i. i ≡ place ss p)
  pub inside : IfOk r (λ i. i < length ts)
  pub slots : ts ≡ cond (room (held_pages ss) p) (opened ss p) ss

-- What keeping a new part of page p answers, and the slots after it.
pub record Kept {E : Type 0} (ss : List Slot) (p : ℕ) (x : Part) (r : Result (Unit {0}) E) (ts : List Slot) : Type 0 where
  pub answer : is_ok r ≡ room (held_pages ss) p
  pub slots : ts ≡ cond (room (held_pages ss) p) (stored ss p x) ss
