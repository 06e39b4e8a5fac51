-- What the parts of a survey do, one after the other.
use Rattle.std.specs.Prelude.{◌≡◌, ℕ, ◌<◌, ◌≤◌, Bool, true, cond, List, [], ◌∷◌, length, Some, None, Option, nat_lt, slice_index_or, All, AllPairs, Any, find}
use Rattle.disk.specs.declared.address.PageAddress.{PageAddress}
use Rattle.disk.specs.declared.label.FileId.{FileId}
use Rattle.disk.specs.declared.label.Label.{Label}
use Rattle.disk.specs.Media.{Page, label_at}
use Rattle.survey.specs.declared.table.Record.{Record}
use Rattle.survey.specs.declared.table.Verdict.TheVariants.{Reserved}
use Rattle.survey.specs.declared.trace.Link.{Link}
use Rattle.survey.specs.Chains.{Naming, is_leader, kept_if, points, joins, chain, same_file}
use Rattle.survey.specs.Verdicts.{bare, judged, record_by}
use Rattle.survey.specs.Laws.{In}

abbrev pub no_record : Record
no_record = bare Reserved

-- The record of a page before chains are walked: a leader is in its own chain, other pages in none.
abbrev pub judged_at : ℕ → Option Label → Bool → Record
judged_at p label leading = cond (nat_lt 0 p) (judged (cond leading p 0) label) (bare Reserved)

abbrev pub first_record : List Page → ℕ → Record
first_record ps p = judged_at p (label_at ps p) (is_leader ps p)

-- The first i records are those.
abbrev pub Scanned : List Page → ℕ → List Record → Type 0
Scanned ps i ts = (p : ℕ) → p < i → slice_index_or ts p no_record ≡ first_record ps p

-- The leaders below page i, from the lowest up.
pub record Listed (ps : List Page) (i : ℕ) (ls : List PageAddress) : Type 0 where
  pub few : length ls ≤ i
  pub leaders : All (λ a. is_leader ps a.page ≡ true) ls
  pub below : All (λ a. a.page < i) ls
  pub rising : AllPairs (λ a b. a.page < b.page) ls
  pub complete : (q : ℕ) → q < i → is_leader ps q ≡ true → Any (λ a. a.page ≡ q) ls

-- The file id of a page in a table, and whether a page has that one.
abbrev pub id_in : List Record → PageAddress → FileId
id_in ts a = (slice_index_or ts a.page no_record).id

abbrev pub has_id : List Record → FileId → PageAddress → Bool
has_id ts f a = same_file (id_in ts a) f

-- The first two pages of a list that have one file id in a table.
abbrev pub pair_or : PageAddress → Option (PageAddress × PageAddress) → Option PageAddress → Option (PageAddress × PageAddress)
pair_or a later None = later
pair_or a later (Some b) = Some (a, b)

abbrev pub pair_of : List Record → List PageAddress → Option (PageAddress × PageAddress)
pair_of ts [] = None
pair_of ts (a ∷ more) = pair_or a (pair_of ts more) (find (has_id ts (id_in ts a)) more)

-- The page that follows one with that label, and its own label.
abbrev pub Linked : Naming → List Page → Label → Option Link → Type 0
Linked name ps l None = kept_if (λ p. joins (Some l) (label_at ps p)) (points name (Some l)) ≡ None
Linked name ps l (Some s) = (kept_if (λ p. joins (Some l) (label_at ps p)) (points name (Some l)) ≡ Some s.page.page) × (label_at ps s.page.page ≡ Some s.label)

-- The pages of the chain of q are marked with it, and no other record has changed.
pub record Marked (name : Naming) (ps : List Page) (q : ℕ) (old new : List Record) : Type 0 where
  pub chained : (p : ℕ) → In p (chain name ps q) → slice_index_or new p no_record ≡ record_by ps q p
  pub others : (p : ℕ) → (In p (chain name ps q) → ⊥) → slice_index_or new p no_record ≡ slice_index_or old p no_record

-- The same of the chains of all leaders of a list.
pub record MarkedAll (name : Naming) (ps : List Page) (ls : List PageAddress) (old new : List Record) : Type 0 where
  pub chained : (p : ℕ) → All (λ a. In p (chain name ps a.page) → slice_index_or new p no_record ≡ record_by ps a.page p) ls
  pub others : (p : ℕ) → All (λ a. In p (chain name ps a.page) → ⊥) ls → slice_index_or new p no_record ≡ slice_index_or old p no_record
