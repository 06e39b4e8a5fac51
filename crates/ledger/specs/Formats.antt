-- A new pack.
use Rattle.std.specs.Prelude.{◌≡◌, ℕ, ◌-◌, true, List, [], ◌∷◌, ◌++◌, length, take, replicate, Some, Result, slice_index}
use Rattle.std.specs.List.{range_with_len}
use Rattle.std.specs.Option.{option_map}
use Rattle.disk.specs.declared.label.Label.{Label}
use Rattle.disk.specs.declared.label.FileId.{FileId}
use Rattle.disk.specs.Addresses.{real_address, page_named, AddressExamples}
use Rattle.disk.specs.Labels.{words_of}
use Rattle.disk.specs.declared.refusal.Refusal.{Refusal}
use Rattle.disk.specs.Media.{Page, Medium, unreadable, label_at, data_at, Write, label_write, data_write, spun_up}
use Rattle.bits.specs.Bits.{none_free, free_all}
use Rattle.ledger.specs.declared.kept.PackRecord.{PackRecord}
use Rattle.survey.specs.Verdicts.{table_of, totals}
use Rattle.ledger.specs.Runs.{freed_all, applied}
use Rattle.ledger.specs.Plans.{Plan, writes, IsPlanned}

-- The data of a new leader: one time, high word first, three times over (created, written, read), and
-- 250 words of 0.
abbrev pub leader_data : ℕ → ℕ → List ℕ
leader_data high low = high ∷ low ∷ high ∷ low ∷ high ∷ low ∷ replicate 250 0

-- The directory's id: the directory mark, serial number 1, version 1.
abbrev pub directory_id : FileId
directory_id = record { version = 1; serial1 = 32768; serial2 = 1 }

-- A label with blank 0.
abbrev pub new_label : ℕ → ℕ → ℕ → ℕ → FileId → Label
new_label next previous characters number id = record { next = record { word = next }; previous = record { word = previous }; blank = 0; characters = characters; number = number; version = id.version; serial1 = id.serial1; serial2 = id.serial2 }

-- The directory's own entry: type 1 and size 10, its id's words, a 0, its leader's page address 1, and
-- the name SYSDIR, a length byte and six letters.
abbrev pub directory_entry : List ℕ
directory_entry = 1034 ∷ 32768 ∷ 1 ∷ 1 ∷ 0 ∷ 1 ∷ 1619 ∷ 22867 ∷ 17481 ∷ 20992 ∷ []

-- Its data page: that entry, and a hole of the other 246 words.
abbrev pub directory_data : List ℕ
directory_data = directory_entry ++ 246 ∷ replicate 245 0

abbrev pub directory_leader_label : Label
directory_leader_label = new_label (real_address 2) 0 512 0 directory_id

abbrev pub directory_page_label : Label
directory_page_label = new_label 0 (real_address 1) 512 1 directory_id

-- The directory is written from its end, data before label, so that it is there once its leader is.
abbrev pub directory_writes : List Write
directory_writes = data_write 2 directory_data ∷ label_write 2 directory_page_label ∷ data_write 1 (leader_data 0 0) ∷ label_write 1 directory_leader_label ∷ []

abbrev pub format_writes : ℕ → List Write
format_writes n = freed_all n ++ directory_writes

-- The pages of a new pack that are free.
abbrev pub new_free : ℕ → List ℕ
new_free n = range_with_len 3 (n - 3)

abbrev pub new_record : ℕ → PackRecord
new_record n = record { ready = true; highest = 1; bits = record { words = free_all (new_free n) none_free } }

-- The plan of format on a pack of n pages.
abbrev pub format_plan : ℕ → Plan (Unit {0})
format_plan n = writes (format_writes n) tt (new_record n)

-- On a steady drive that is a value. Format turns the drive on first.
abbrev pub FormatValue : Medium → Result (Unit {0}) Refusal → Medium → PackRecord → Type 0
FormatValue m r t l = m.steady ≡ true → IsPlanned (format_plan (length m.pages)) (spun_up m) r t l

-- A new pack of one cylinder, on 24 pages that could not be read before.
abbrev pub new_pages : List Page
new_pages = applied (format_writes 24) (replicate 24 unreadable)

pub record NewPackExamples : Type 0 where
  pub verdicts : totals (table_of (page_named 1) new_pages) ≡ record { reserved = 1; free = 21; chained = 2; stray = 0; aside = 0 }
  pub leader : option_map words_of (label_at new_pages 1) ≡ Some (8192 ∷ 0 ∷ 0 ∷ 512 ∷ 0 ∷ 1 ∷ 32768 ∷ 1 ∷ [])
  pub page : option_map words_of (label_at new_pages 2) ≡ Some (0 ∷ 4096 ∷ 0 ∷ 512 ∷ 1 ∷ 1 ∷ 32768 ∷ 1 ∷ [])
  pub entry : option_map (take 10) (data_at new_pages 2) ≡ Some (1034 ∷ 32768 ∷ 1 ∷ 1 ∷ 0 ∷ 1 ∷ 1619 ∷ 22867 ∷ 17481 ∷ 20992 ∷ [])
  pub hole : option_map (λ ws. slice_index ws 10) (data_at new_pages 2) ≡ Some 246

-- What stands on such a pack, and in the same way on every other of one cylinder.
pub record NewPackExample (qs : List Page) : Type 0 where
  pub verdicts : totals (table_of (page_named 1) qs) ≡ record { reserved = 1; free = 21; chained = 2; stray = 0; aside = 0 }
  pub leader : option_map words_of (label_at qs 1) ≡ Some (8192 ∷ 0 ∷ 0 ∷ 512 ∷ 0 ∷ 1 ∷ 32768 ∷ 1 ∷ [])
  pub page : option_map words_of (label_at qs 2) ≡ Some (0 ∷ 4096 ∷ 0 ∷ 512 ∷ 1 ∷ 1 ∷ 32768 ∷ 1 ∷ [])
  pub entry : option_map (take 10) (data_at qs 2) ≡ Some (1034 ∷ 32768 ∷ 1 ∷ 1 ∷ 0 ∷ 1 ∷ 1619 ∷ 22867 ∷ 17481 ∷ 20992 ∷ [])
  pub hole : option_map (λ ws. slice_index ws 10) (data_at qs 2) ≡ Some 246

-- The worked examples of addresses and of a new pack, whatever stood on its pages before.
pub record WorkedExamples : Type 0 where
  pub addresses : AddressExamples
  pub new_pack : (ps : List Page) → length ps ≡ 24 → NewPackExample (applied (format_writes 24) ps)
