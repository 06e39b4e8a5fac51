-- Writes that change no chain.
use Rattle.std.specs.Prelude.{◌≡◌, ℕ, false, List, Some, ◌≢◌}
use Rattle.disk.specs.declared.label.Label.{Label}
use Rattle.disk.specs.Labels.{free_label}
use Rattle.disk.specs.Media.{Page, label_at, put, a_label, a_data}
use Rattle.survey.specs.Chains.{Naming, is_leader, points, chain}
use Rattle.survey.specs.Laws.{In, Leader}

-- The label with another previous link, all else the same.
abbrev pub with_previous : ℕ → Label → Label
with_previous w l = record { next = l.next; previous = record { word = w }; blank = l.blank; characters = l.characters; number = l.number; version = l.version; serial1 = l.serial1; serial2 = l.serial2 }

-- Both packs have the same leaders, and each page has the same pages behind it.
pub record SameChains (name : Naming) (ps qs : List Page) : Type 0 where
  pub leaders : (q : ℕ) → is_leader qs q ≡ is_leader ps q
  pub chains : (q : ℕ) → Leader ps q → chain name qs q ≡ chain name ps q

-- Page f is in no chain.
abbrev pub Unchained : Naming → List Page → ℕ → Type 0
Unchained name ps f = (q : ℕ) → Leader ps q → In f (chain name ps q) → ⊥

-- No page of a chain names page f as its next.
abbrev pub Unnamed : Naming → List Page → ℕ → Type 0
Unnamed name ps f = (q x : ℕ) → Leader ps q → In x (chain name ps q) → points name (label_at ps x) ≢ Some f

pub record FrameLaws (name : Naming) (ps : List Page) : Type 0 where
  -- a data write changes no chain, and no data but that page's
  pub data_write_there : (f : ℕ) (d : List ℕ) → SameChains name ps (put ps f (a_data d))
  -- a label on a page that is in no chain and that no chain's page names, if it is no leader's
  pub label_elsewhere : (f : ℕ) (l : Label) → Unchained name ps f → Unnamed name ps f → is_leader (put ps f (a_label l)) f ≡ false → SameChains name ps (put ps f (a_label l))
  -- the previous link alone
  pub previous_alone : (f w : ℕ) (l : Label) → label_at ps f ≡ Some l → SameChains name ps (put ps f (a_label (with_previous w l)))
  -- freeing a page that is in no chain
  pub freed : (f : ℕ) → Unchained name ps f → SameChains name ps (put ps f (a_label free_label))

-- The same of every pack.
abbrev pub Frames : Type 0
Frames = (name : Naming) (ps : List Page) → FrameLaws name ps
