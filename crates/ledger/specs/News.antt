-- What a format leaves.
use Rattle.std.specs.Prelude.{◌≡◌, ℕ, ◌-◌, length}
use Rattle.disk.specs.Addresses.{page_named, real_address}
use Rattle.disk.specs.Media.{Medium}
use Rattle.survey.specs.declared.table.Totals.{Totals}
use Rattle.survey.specs.Verdicts.{table_of, totals}
use Rattle.ledger.specs.declared.kept.PackRecord.{PackRecord}
use Rattle.ledger.specs.Mends.{mended_record}
use Rattle.ledger.specs.Ledgers.{ledger_of}
use Rattle.ledger.specs.States.{KeptState}
use Rattle.ledger.specs.Books.{opening, AllReadable}

-- A new pack in a drive, with its record: the pages are in order and can all be read, but for page 0; the
-- record fits them, and is the one that a scavenge would make; the ledger is that of a pack without files;
-- and two pages are chained and all others free.
abbrev pub new_totals : ℕ → Totals
new_totals n = record { reserved = 1; free = n - 3; chained = 2; stray = 0; aside = 0 }

pub record NewPack (m : Medium) (k : PackRecord) : Type 0 where
  pub kept : KeptState (page_named m.cylinders) real_address m.pages k
  pub ledger : ledger_of (page_named m.cylinders) m.pages k ≡ opening (length m.pages)
  pub readable : AllReadable m.pages
  pub as_mended : k ≡ mended_record (page_named m.cylinders) m.pages
  pub verdicts : totals (table_of (page_named m.cylinders) m.pages) ≡ new_totals (length m.pages)
