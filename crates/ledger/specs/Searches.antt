-- The search for a free page by the record of a pack, and what is marked in the record.
use Rattle.std.specs.Prelude.{ℕ, Bool, false, List, Some, None, Option}
use Rattle.disk.specs.declared.label.Label.{Label}
use Rattle.disk.specs.Labels.{is_free}
use Rattle.bits.specs.Bits.{taken, freed, free_all, round_free, start_page}
use Rattle.ledger.specs.declared.kept.PackRecord.{PackRecord}

-- The page that the search from a start finds by the bits, on a pack of n pages: from the start up to the
-- last page, and then from page 1 on.
abbrev pub searched : PackRecord → ℕ → ℕ → Option ℕ
searched k start n = round_free k.bits.words (start_page start n) n

abbrev pub free_label_at : Option Label → Bool
free_label_at None = false
free_label_at (Some l) = is_free l

-- The record with other bits; with the bit of page p set; and cleared; and with those of several cleared.
abbrev pub with_bits : PackRecord → List ℕ → PackRecord
with_bits k ws = record { ready = k.ready; highest = k.highest; bits = record { words = ws } }

abbrev pub with_taken : PackRecord → ℕ → PackRecord
with_taken k p = record { ready = k.ready; highest = k.highest; bits = record { words = taken k.bits.words p } }

abbrev pub with_freed : PackRecord → ℕ → PackRecord
with_freed k p = record { ready = k.ready; highest = k.highest; bits = record { words = freed k.bits.words p } }

abbrev pub with_all_freed : PackRecord → List ℕ → PackRecord
with_all_freed k ps = with_bits k (free_all ps k.bits.words)

-- The record with another highest serial.
abbrev pub with_highest : PackRecord → ℕ → PackRecord
with_highest k n = record { ready = k.ready; highest = n; bits = k.bits }
