-- What the parts of a scavenge say to each other.
use Rattle.std.specs.Prelude.{◌≡◌, ℕ, ◌-◌, ◌<◌, ◌≤◌, Bool, true, false, ◌&&◌, List, length, Some, None, filter, Option, ◌==◌, slice_index_or, slice_set}
use Rattle.std.specs.List.{range_with_len}
use Rattle.disk.specs.declared.label.Label.{Label}
use Rattle.disk.specs.Addresses.{real_address}
use Rattle.disk.specs.Media.{Page}
use Rattle.survey.specs.declared.table.Record.{Record}
use Rattle.survey.specs.Chains.{Naming, first_of, rivalled}
use Rattle.survey.specs.Verdicts.{record_of}
use Rattle.survey.specs.Steps.{no_record}
use Rattle.ledger.specs.Mends.{is_chained, page_after, page_before, mended, ends_free}
use Rattle.pack.specs.declared.links.Links.{Links}

-- The table of a survey of these pages, among which there are no rivals.
pub record Surveyed (name : Naming) (ps : List Page) (ts : List Record) : Type 0 where
  pub size : length ts ≡ length ps
  pub few : length ps ≤ 9744
  pub filled : (p : ℕ) → p < length ps → slice_index_or ts p no_record ≡ record_of name ps p
  pub none : rivalled ps ≡ 0

-- The links at page p.
abbrev pub no_links : Links
no_links = record { next = record { word = 0 }; previous = record { word = 0 } }

abbrev pub links_at : List Links → ℕ → Links
links_at ls p = slice_index_or ls p no_links

-- The address of the page behind page p noted at p, and that of page p at that one.
abbrev pub noted_next : List Links → ℕ → ℕ → List Links
noted_next ls p y = slice_set ls p (record { next = record { word = real_address y }; previous = (links_at ls p).previous })

abbrev pub noted_previous : List Links → ℕ → ℕ → List Links
noted_previous ls y p = slice_set ls y (record { next = (links_at ls y).next; previous = record { word = real_address p } })

abbrev pub noted : Option ℕ → ℕ → List Links → List Links
noted None p ls = ls
noted (Some y) p ls = noted_previous (noted_next ls p y) y p

-- The links of the chained pages below page i.
abbrev pub is_before : Naming → List Page → ℕ → ℕ → Bool
is_before name ps p q = is_chained name ps q && page_after name ps q == p

pub record Noted (name : Naming) (ps : List Page) (i : ℕ) (ls : List Links) : Type 0 where
  pub room : length ps ≤ length ls
  pub done : (p : ℕ) → 0 < p → p < i → is_chained name ps p ≡ true → (links_at ls p).next.word ≡ real_address (page_after name ps p)
  pub left : (p : ℕ) → i ≤ p → (links_at ls p).next.word ≡ 0
  pub before : (p : ℕ) → 0 < p → (links_at ls p).previous.word ≡ real_address (first_of (is_before name ps p) (range_with_len 1 (i - 1)))

-- The links of all chained pages.
pub record LinksFound (name : Naming) (ps : List Page) (ls : List Links) : Type 0 where
  pub after : (p : ℕ) → 0 < p → p < length ps → is_chained name ps p ≡ true → (links_at ls p).next.word ≡ real_address (page_after name ps p)
  pub before : (p : ℕ) → 0 < p → (links_at ls p).previous.word ≡ real_address (page_before name ps p)

-- The label that a page gets, with these links in a chain, or free.
abbrev pub mended_by : Option Links → Option Label → Option Label
mended_by None o = mended false 0 0 o
mended_by (Some l) o = mended true l.next.word l.previous.word o

-- The pages of a pack of n pages that end free, by a table; by a survey's, page 0 is not among them.
abbrev pub freed_in : List Record → ℕ → List ℕ
freed_in ts n = filter (λ p. ends_free (slice_index_or ts p no_record).verdict) (range_with_len 0 n)
