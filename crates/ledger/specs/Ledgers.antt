-- The ledger of a pack: which files it holds and what stands in its directory, read off its pages.
use Rattle.std.specs.Prelude.{ℕ, ◌/◌, ◌%◌, Bool, cond, not, ◌&&◌, List, [], ◌∷◌, ◌++◌, map, length, take, Some, None, Option, ◌==◌, nat_le}
use Rattle.std.specs.List.{range_with_len}
use Rattle.disk.specs.declared.label.Label.{Label}
use Rattle.disk.specs.declared.label.FileId.{FileId}
use Rattle.disk.specs.Labels.{id_of, directory_mark}
use Rattle.disk.specs.Media.{Page, label_at, data_at}
use Rattle.survey.specs.Chains.{Naming, is_leader, rest}
use Rattle.ledger.specs.declared.kept.PackRecord.{PackRecord}
use Rattle.ledger.specs.Directories.{Entry, entries_in}

-- A data page of a file: its words, none where they cannot be read, and how many bytes of them count.
pub record DataPage : Type 0 where
  pub words : Option (List ℕ)
  pub count : ℕ

-- A file: its id, its leader's data and its data pages in order.
pub record File : Type 0 where
  pub id : FileId
  pub leader : Option (List ℕ)
  pub pages : List DataPage

-- The same with the address of each data page.
pub record LocatedPage : Type 0 where
  pub at : ℕ
  pub page : DataPage

pub record LocatedFile : Type 0 where
  pub id : FileId
  pub leader : Option (List ℕ)
  pub pages : List LocatedPage

-- What is read off a label; a label that cannot be read has zeros.
abbrev pub id_on : Option Label → FileId
id_on None = record { version = 0; serial1 = 0; serial2 = 0 }
id_on (Some l) = id_of l

abbrev pub count_on : Option Label → ℕ
count_on None = 0
count_on (Some l) = l.characters

abbrev pub located_page : List Page → ℕ → LocatedPage
located_page ps p = record { at = p; page = record { words = data_at ps p; count = count_on (label_at ps p) } }

-- The file of the leader q.
abbrev pub located_file : Naming → List Page → ℕ → LocatedFile
located_file name ps q = record { id = id_on (label_at ps q); leader = data_at ps q; pages = map (located_page ps) (rest name ps q) }

-- The files of a pack by the addresses of their leaders, none where no leader stands.
abbrev pub located_at : Naming → List Page → ℕ → Option LocatedFile
located_at name ps q = cond (is_leader ps q) (Some (located_file name ps q)) None

unfoldable pub located : Naming → List Page → List (Option LocatedFile)
located name ps = map (located_at name ps) (range_with_len 0 (length ps))

-- The file without the addresses of its data pages.
abbrev pub unlocated : LocatedFile → File
unlocated f = record { id = f.id; leader = f.leader; pages = map (λ x. x.page) f.pages }

-- The directory is the file whose leader stands at page 1, if it bears the directory mark. It counts by
-- its entries and not among the files.
abbrev pub is_directory : List Page → ℕ → Bool
is_directory ps q = q == 1 && directory_mark (id_on (label_at ps q))

abbrev pub counts : List Page → ℕ → Bool
counts ps q = is_leader ps q && not (is_directory ps q)

abbrev pub file_at : Naming → List Page → ℕ → Option File
file_at name ps q = cond (counts ps q) (Some (unlocated (located_file name ps q))) None

unfoldable pub files : Naming → List Page → List (Option File)
files name ps = map (file_at name ps) (range_with_len 0 (length ps))

-- The words of data pages, one page after the other; none where a page cannot be read or has an odd
-- number of bytes.
abbrev pub page_words : DataPage → Option (List ℕ) → Option (List ℕ)
page_words d None = None
page_words d (Some ws) = cond (d.count % 2 == 0) (Some (take (d.count / 2) ws)) None

abbrev pub joined : Option (List ℕ) → Option (List ℕ) → Option (List ℕ)
joined None b = None
joined (Some xs) None = None
joined (Some xs) (Some ys) = Some (xs ++ ys)

abbrev pub all_words : List DataPage → Option (List ℕ)
all_words [] = Some []
all_words (d ∷ ds) = joined (page_words d d.words) (all_words ds)

-- The words of the directory, where it can be loaded: a directory has at most 32 data pages.
abbrev pub directory_words : Naming → List Page → Option (List ℕ)
directory_words name ps = cond (is_leader ps 1 && (is_directory ps 1 && nat_le (length (rest name ps 1)) 32)) (all_words (unlocated (located_file name ps 1)).pages) None

-- The directory's entries in order; none where it cannot be loaded.
abbrev pub entries_found : Option (List Entry) → List Entry
entries_found None = []
entries_found (Some es) = es

abbrev pub entries_of : Option (List ℕ) → List Entry
entries_of None = []
entries_of (Some ws) = entries_found (entries_in ws)

unfoldable pub entries : Naming → List Page → List Entry
entries name ps = entries_of (directory_words name ps)

pub record Ledger : Type 0 where
  pub files : List (Option File)
  pub entries : List Entry
  pub highest : ℕ

-- The ledger of a pack with these pages and this record: of the record only the highest serial counts.
abbrev pub ledger_of : Naming → List Page → PackRecord → Ledger
ledger_of name ps k = record { files = files name ps; entries = entries name ps; highest = k.highest }
