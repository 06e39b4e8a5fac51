-- What a page, a reader and a drive mean, and the write rule.
use Rattle.std.specs.Prelude.{◌≡◌, ℕ, ◌<◌, ◌≤◌, Bool, true, false, ◌⊎◌, List, length, Some, None, Ok, Err, Option, Result, slice_index_or, slice_set}
use Rattle.disk.specs.declared.label.Label.{Label}
use Rattle.disk.specs.declared.refusal.Refusal.{Refusal}
use Rattle.disk.specs.Refusals.{hardware}

-- A page as it stands: its label and its 256 words of data, each readable or not.
pub record Page : Type 0 where
  pub label : Option Label
  pub words : Option (List ℕ)

abbrev pub unreadable : Page
unreadable = record { label = None; words = None }

-- What a read of page p answers: past the last page, unreadable.
abbrev pub label_at : List Page → ℕ → Option Label
label_at ps p = (slice_index_or ps p unreadable).label

abbrev pub data_at : List Page → ℕ → Option (List ℕ)
data_at ps p = (slice_index_or ps p unreadable).words

-- What a reader or a drive is at a moment: the cylinders of its pack, its pages, whether it is on,
-- and whether it is steady. A reader that cannot be written is off.
pub record Medium : Type 0 where
  pub cylinders : ℕ
  pub pages : List Page
  pub on : Bool
  pub steady : Bool

-- A write puts a new label or new data on one page.
pub data Part : Type 0 where
  a_label : Label → Part
  a_data : List ℕ → Part

pub record Write : Type 0 where
  pub page : ℕ
  pub part : Part

abbrev pub label_write : ℕ → Label → Write
label_write p l = record { page = p; part = a_label l }

abbrev pub data_write : ℕ → List ℕ → Write
data_write p d = record { page = p; part = a_data d }

-- The pages with that part of page p new, and all else as it was.
abbrev pub put : List Page → ℕ → Part → List Page
put ps p (a_label l) = slice_set ps p (record { label = Some l; words = data_at ps p })
put ps p (a_data d) = slice_set ps p (record { label = label_at ps p; words = Some d })

-- The pages with the data of page p spoilt.
abbrev pub spoilt : List Page → ℕ → List Page
spoilt ps p = slice_set ps p (record { label = label_at ps p; words = None })

-- The medium after a write that went through.
abbrev pub after : Write → Medium → Medium
after w m = record { cylinders = m.cylinders; pages = put m.pages w.page w.part; on = m.on; steady = m.steady }

-- The medium turned off with those pages, and turned on with its own.
abbrev pub off_with : List Page → Medium → Medium
off_with ps m = record { cylinders = m.cylinders; pages = ps; on = false; steady = m.steady }

abbrev pub spun_up : Medium → Medium
spun_up m = record { cylinders = m.cylinders; pages = m.pages; on = true; steady = m.steady }

-- The drive is on and has the page.
pub record Goes (w : Write) (m : Medium) : Type 0 where
  pub on : m.on ≡ true
  pub inside : w.page < length m.pages

-- The write rule. A write goes through, and the new words stand there;
pub record Went (w : Write) (before later : Medium) : Type 0 where
  pub goes : Goes w before
  pub is : later ≡ after w before

-- or it is refused since the drive is off or has no such page, and nothing changes;
pub record Ignored (w : Write) (before later : Medium) : Type 0 where
  pub why : (length before.pages ≤ w.page) ⊎ (before.on ≡ false)
  pub same : later ≡ before

-- or it is refused and turns the drive off, which no steady drive does: then a label stands old or
-- new, data old, new or unreadable, and no other part changes.
abbrev pub Torn : List Page → ℕ → Part → List Page → Type 0
Torn ps p (a_label l) qs = (qs ≡ ps) ⊎ (qs ≡ put ps p (a_label l))
Torn ps p (a_data d) qs = ((qs ≡ ps) ⊎ (qs ≡ put ps p (a_data d))) ⊎ (qs ≡ spoilt ps p)

pub record Cut (w : Write) (before later : Medium) : Type 0 where
  pub goes : Goes w before
  pub not_steady : before.steady ≡ false
  pub torn : Torn before.pages w.page w.part later.pages
  pub is : later ≡ off_with later.pages before

-- What the write w does to a drive, by its answer. A refused write names its page.
abbrev pub Written : Write → Medium → Result (Unit {0}) Refusal → Medium → Type 0
Written w before (Ok _) later = Went w before later
Written w before (Err e) later = (e ≡ hardware w.page) × (Ignored w before later ⊎ Cut w before later)
