-- What a scavenge finds to mend, what it writes, and the record that it leaves.
use Rattle.std.specs.Prelude.{ℕ, max, Bool, true, false, cond, ◌&&◌, List, [], ◌∷◌, ◌++◌, length, Some, None, Ok, Err, filter, Option, Result, ◌==◌, nat_lt}
use Rattle.disk.specs.declared.label.Label.{Label}
use Rattle.disk.specs.declared.label.FileId.{FileId}
use Rattle.disk.specs.declared.refusal.Refusal.{Refusal}
use Rattle.disk.specs.declared.refusal.Reason.TheVariants.{TooSmall, Rivals}
use Rattle.disk.specs.declared.refusal.Place.TheVariants.{Pack}
use Rattle.disk.specs.Labels.{free_label, serial_number, words_of}
use Rattle.disk.specs.Refusals.{refusal, refusal_of_two}
use Rattle.disk.specs.Media.{Page, Medium, label_at, Write, label_write, spun_up}
use Rattle.bits.specs.Bits.{none_free, free_all}
use Rattle.survey.specs.declared.table.Verdict.{Verdict}
use Rattle.survey.specs.declared.table.Verdict.TheVariants.{Reserved, Free, Chained, Stray, Aside}
use Rattle.survey.specs.declared.table.Record.{Record}
use Rattle.survey.specs.declared.table.Totals.{Totals}
use Rattle.survey.specs.Chains.{Naming, follower, first_of, pages_above, leader_of, rivalled, rival_of}
use Rattle.survey.specs.Verdicts.{record_of, table_of, totals, cleared, survey_table}
use Rattle.ledger.specs.declared.kept.PackRecord.{PackRecord}
use Rattle.ledger.specs.Plans.{Plan, refuses, writes, unready}

-- Page p is in the chain of a leader.
abbrev pub is_chained : Naming → List Page → ℕ → Bool
is_chained name ps p = nat_lt 0 (leader_of name ps p)

-- The page that follows page p, or 0 where none does.
abbrev pub page_or_none : Option ℕ → ℕ
page_or_none None = 0
page_or_none (Some p) = p

unfoldable pub page_after : Naming → List Page → ℕ → ℕ
page_after name ps p = page_or_none (follower name ps p)

-- The chained page that page p follows, or 0 where there is none.
unfoldable pub page_before : Naming → List Page → ℕ → ℕ
page_before name ps p = first_of (λ q. is_chained name ps q && page_after name ps q == p) (pages_above ps)

-- The label with both links new, all else the same.
abbrev pub relinked : ℕ → ℕ → Label → Label
relinked next previous l = record { next = record { word = next }; previous = record { word = previous }; blank = l.blank; characters = l.characters; number = l.number; version = l.version; serial1 = l.serial1; serial2 = l.serial2 }

-- The label that a scavenge leaves on a page: one in a chain is linked both ways, with 0 at the ends of
-- the chain, and every other page whose label can be read is free. Page 0 keeps its own.
abbrev pub mended : Bool → ℕ → ℕ → Option Label → Option Label
mended chained next previous None = None
mended chained next previous (Some l) = Some (cond chained (relinked next previous l) free_label)

unfoldable pub mended_label : Naming → (ℕ → ℕ) → List Page → ℕ → Option Label
mended_label name real ps p = cond (nat_lt 0 p) (mended (is_chained name ps p) (real (page_after name ps p)) (real (page_before name ps p)) (label_at ps p)) (label_at ps p)

-- Two lists of words are the same.
abbrev pub same_words : List ℕ → List ℕ → Bool
same_words [] [] = true
same_words [] (y ∷ ys) = false
same_words (x ∷ xs) [] = false
same_words (x ∷ xs) (y ∷ ys) = x == y && same_words xs ys

-- The write that gives page p a new label, where that is another than its old one.
abbrev pub relabelling : ℕ → Option Label → Option Label → List Write
relabelling p None new = []
relabelling p (Some l) None = []
relabelling p (Some l) (Some m) = cond (same_words (words_of l) (words_of m)) [] (label_write p m ∷ [])

unfoldable pub mend_at : Naming → (ℕ → ℕ) → List Page → ℕ → List Write
mend_at name real ps p = relabelling p (label_at ps p) (mended_label name real ps p)

-- What a scavenge writes: page after page from 1 up, at most one label a page.
abbrev pub gathered : (ℕ → List Write) → List ℕ → List Write
gathered f [] = []
gathered f (p ∷ ps) = f p ++ gathered f ps

unfoldable pub mend_writes : Naming → (ℕ → ℕ) → List Page → List Write
mend_writes name real ps = gathered (mend_at name real ps) (pages_above ps)

-- A page of that verdict is free once the pack is mended.
abbrev pub ends_free : Verdict → Bool
ends_free Reserved = false
ends_free Free = true
ends_free Chained = false
ends_free Stray = true
ends_free Aside = false

-- The serial number of a chained page, and the largest in a table; 0 where no page is chained.
abbrev pub serial_if : Verdict → FileId → ℕ
serial_if Reserved f = 0
serial_if Free f = 0
serial_if Chained f = serial_number f
serial_if Stray f = 0
serial_if Aside f = 0

abbrev pub largest_serial : List Record → ℕ
largest_serial [] = 0
largest_serial (r ∷ rs) = max (serial_if r.verdict r.id) (largest_serial rs)

-- The pages that are free then, and the bit table that says so.
abbrev pub pages_freed : Naming → List Page → List ℕ
pages_freed name ps = filter (λ p. ends_free (record_of name ps p).verdict) (pages_above ps)

unfoldable pub mended_record : Naming → List Page → PackRecord
mended_record name ps = record { ready = true; highest = largest_serial (table_of name ps); bits = record { words = free_all (pages_freed name ps) none_free } }

-- The plan of a scavenge with a table of so many records, on a pack in whose drive these pages stand: too
-- few records are refused first, then rivals, which leave the pack not ready; else it mends.
abbrev pub mending : Naming → (ℕ → ℕ) → List Page → PackRecord → ℕ → Plan Totals
mending name real ps k p = cond (nat_lt 0 p) (refuses (refusal_of_two Rivals Pack p (rival_of ps p)) (unready k)) (writes (mend_writes name real ps) (totals (table_of name ps)) (mended_record name ps))

abbrev pub scavenge_plan : Naming → (ℕ → ℕ) → List Page → PackRecord → ℕ → Plan Totals
scavenge_plan name real ps k room = cond (nat_lt room (length ps)) (refuses (refusal TooSmall Pack 0) k) (mending name real ps k (rivalled ps))

-- It turns the drive on first, unless there are too few records.
abbrev pub scavenge_start : Medium → ℕ → Medium
scavenge_start m room = cond (nat_lt room (length m.pages)) m (spun_up m)

-- The table after it: the survey before mending; where it was refused, zero records for all pages of the
-- pack, but a table of too few records is not touched.
abbrev pub scavenge_table : {A : Type 0} → Naming → List Page → List Record → Result A Refusal → List Record
scavenge_table name ps ts (Ok _) = survey_table name ps ts
scavenge_table name ps ts (Err _) = cleared (length ps) ts
