-- Calls, cuts, traces and books on a small pack: one cylinder, which could not be read before its format.
use Rattle.std.specs.Prelude.{◌≡◌, ◌+◌, true, false, ◌⊎◌, List, [], ◌∷◌, map, length, take, replicate, Some, None, Ok, codes}
use Rattle.std.specs.List.{range_with_len}
use Rattle.disk.specs.declared.label.Label.{Label}
use Rattle.disk.specs.Addresses.{page_named}
use Rattle.disk.specs.Labels.{label_of, free_label}
use Rattle.disk.specs.Media.{Page, Medium, put, spoilt, a_label, a_data, data_write, label_write}
use Rattle.ledger.specs.declared.kept.PackRecord.{PackRecord}
use Rattle.ledger.specs.declared.handle.Handle.{Handle}
use Rattle.ledger.specs.Runs.{applied, whole}
use Rattle.ledger.specs.Plans.{unready, writes_of, answer_of, record_of}
use Rattle.ledger.specs.Formats.{leader_data, directory_data, new_pages, new_record}
use Rattle.ledger.specs.Directories.{entries_in}
use Rattle.ledger.specs.Ledgers.{Ledger, all_words, entries}
use Rattle.ledger.specs.Books.{State, Call, a_scavenge, a_create, an_append, a_replace, a_truncate, a_delete, plan_of, start_of, step_of, Trace, Book, ledger_in, opening, directory_itself, hole, created, scavenged}

abbrev pub one_cylinder : List Page → Medium
one_cylinder ps = record { cylinders = 1; pages = ps; on = true; steady = false }

-- The pack after its format.
abbrev pub new_state : State
new_state = record { medium = one_cylinder new_pages; kept = new_record 24 }

-- Power failed under a call: those pages stand there, and k was the record before.
abbrev pub failed : PackRecord → List Page → State
failed k ps = record { medium = record { cylinders = 1; pages = ps; on = false; steady = false }; kept = unready k }

-- The pack after a call that went through.
abbrev pub after_call : Call → State → State
after_call c s = record { medium = whole (writes_of (plan_of c s)) (start_of c s.medium); kept = record_of (plan_of c s) }

-- The ledger that a scavenge brings out.
abbrev pub found_again : State → Ledger
found_again s = ledger_in (after_call (a_scavenge 24) s)

-- The same where power failed behind none, one, and so on up to all of a call's writes.
abbrev pub found_after : Call → State → List Ledger
found_after c s = map (λ i. found_again (failed s.kept (applied (take i (writes_of (plan_of c s))) s.medium.pages))) (range_with_len 0 (length (writes_of (plan_of c s)) + 1))

-- The first file of a new pack: its label, the ledger with it, and the two ways in which a create of it at
-- time (0, 5) may fail at its label.
abbrev pub first_label : Label
first_label = label_of (0 ∷ 0 ∷ 0 ∷ 512 ∷ 0 ∷ 1 ∷ 0 ∷ 2 ∷ [])

abbrev pub with_first : Ledger
with_first = created 0 5 3 (opening 24)

abbrev pub cut_old : State
cut_old = failed (new_record 24) (put new_pages 3 (a_data (leader_data 0 5)))

abbrev pub cut_new : State
cut_new = failed (new_record 24) (put (put new_pages 3 (a_data (leader_data 0 5))) 3 (a_label first_label))

-- Six calls on that file, one after the other: the state and the ledger after each.
abbrev pub first_file : Handle
first_file = record { id = record { version = 1; serial1 = 0; serial2 = 2 }; leader = record { page = 3 } }

abbrev pub call_1 : Call
call_1 = a_create 0 5

abbrev pub call_2 : Call
call_2 = an_append first_file (replicate 256 7) 512

abbrev pub call_3 : Call
call_3 = an_append first_file (replicate 256 8) 100

abbrev pub call_4 : Call
call_4 = a_replace first_file 1 (replicate 256 9) 512

abbrev pub call_5 : Call
call_5 = a_truncate first_file 1 10

abbrev pub call_6 : Call
call_6 = a_delete first_file

abbrev pub state_1 : State
state_1 = after_call call_1 new_state

abbrev pub state_2 : State
state_2 = after_call call_2 state_1

abbrev pub state_3 : State
state_3 = after_call call_3 state_2

abbrev pub state_4 : State
state_4 = after_call call_4 state_3

abbrev pub state_5 : State
state_5 = after_call call_5 state_4

abbrev pub state_6 : State
state_6 = after_call call_6 state_5

abbrev pub ledger_2 : Ledger
ledger_2 = step_of call_2 0 with_first

abbrev pub ledger_3 : Ledger
ledger_3 = step_of call_3 0 ledger_2

abbrev pub ledger_4 : Ledger
ledger_4 = step_of call_4 0 ledger_3

abbrev pub ledger_5 : Ledger
ledger_5 = step_of call_5 0 ledger_4

abbrev pub ledger_6 : Ledger
ledger_6 = step_of call_6 0 ledger_5

-- There is a trace to the state, and its book is this ledger alone, or these two.
pub record Sure (t : State) (a : Ledger) : Type 0 where
  pub trace : Trace t
  pub book : Book trace a
  pub only : (x : Ledger) → Book trace x → x ≡ a

pub record EitherWay (t : State) (a b : Ledger) : Type 0 where
  pub trace : Trace t
  pub one : Book trace a
  pub other : Book trace b
  pub only : (x : Ledger) → Book trace x → (x ≡ a) ⊎ (x ≡ b)

-- A new pack; a scavenge of it finds nothing to do.
pub record NewExamples : Type 0 where
  pub sure : Sure new_state (opening 24)
  pub ledger : ledger_in new_state ≡ opening 24
  pub no_writes : writes_of (plan_of (a_scavenge 24) new_state) ≡ []
  pub totals : answer_of (plan_of (a_scavenge 24) new_state) ≡ Ok (record { reserved = 1; free = 21; chained = 2; stray = 0; aside = 0 })
  pub kept : record_of (plan_of (a_scavenge 24) new_state) ≡ new_record 24
  pub step : scavenged (opening 24) ≡ opening 24

-- A create on it, and the two ways in which power may fail at its label: the book has the ledger before
-- and the ledger after, each of the two packs has the files of one of them, and a scavenge brings out all
-- of it, with its highest serial.
pub record CreateExamples : Type 0 where
  pub writes : writes_of (plan_of (a_create 0 5) new_state) ≡ data_write 3 (leader_data 0 5) ∷ label_write 3 first_label ∷ []
  pub answer : answer_of (plan_of (a_create 0 5) new_state) ≡ Ok first_file
  pub highest : (record_of (plan_of (a_create 0 5) new_state)).highest ≡ 2
  pub old : EitherWay cut_old (opening 24) with_first
  pub new : EitherWay cut_new (opening 24) with_first
  pub old_files : (ledger_in cut_old).files ≡ (opening 24).files
  pub old_entries : (ledger_in cut_old).entries ≡ (opening 24).entries
  pub new_files : (ledger_in cut_new).files ≡ with_first.files
  pub new_entries : (ledger_in cut_new).entries ≡ with_first.entries
  pub old_mended : found_again cut_old ≡ scavenged (opening 24)
  pub new_mended : found_again cut_new ≡ scavenged with_first

-- The six calls take the steps that the ledger takes, each leaves nothing to mend, and where power fails
-- under one, a scavenge brings out the ledger before it or the ledger after it.
pub record CallExamples : Type 0 where
  pub steps : map ledger_in (state_1 ∷ state_2 ∷ state_3 ∷ state_4 ∷ state_5 ∷ state_6 ∷ []) ≡ with_first ∷ ledger_2 ∷ ledger_3 ∷ ledger_4 ∷ ledger_5 ∷ ledger_6 ∷ []
  pub nothing_to_mend : map (λ s. writes_of (plan_of (a_scavenge 24) s)) (state_1 ∷ state_2 ∷ state_3 ∷ state_4 ∷ state_5 ∷ state_6 ∷ []) ≡ [] ∷ [] ∷ [] ∷ [] ∷ [] ∷ [] ∷ []
  pub append : found_after call_2 state_1 ≡ scavenged with_first ∷ scavenged with_first ∷ scavenged with_first ∷ scavenged ledger_2 ∷ []
  pub append_spoilt : found_again (failed state_1.kept (spoilt state_1.medium.pages 4)) ≡ scavenged with_first
  pub append_more : found_after call_3 state_2 ≡ scavenged ledger_2 ∷ scavenged ledger_2 ∷ scavenged ledger_2 ∷ scavenged ledger_3 ∷ []
  pub replace : found_after call_4 state_3 ≡ scavenged ledger_3 ∷ scavenged ledger_3 ∷ scavenged ledger_3 ∷ scavenged ledger_4 ∷ scavenged ledger_4 ∷ scavenged ledger_4 ∷ []
  pub truncate : found_after call_5 state_4 ≡ scavenged ledger_4 ∷ scavenged ledger_5 ∷ scavenged ledger_5 ∷ []
  pub delete : found_after call_6 state_5 ≡ scavenged ledger_5 ∷ scavenged ledger_6 ∷ scavenged ledger_6 ∷ []
  -- with its file gone the serial is given again
  pub highest_then : map (λ s. (found_again s).highest) (state_5 ∷ state_6 ∷ []) ≡ 2 ∷ 1 ∷ []

-- Entries, and words that are not in order: one bad entry spoils all. A file entry is type 1 (1024) and a
-- size, serial 1, serial 2, version, 0, the leader's page, then a length byte and the name.
pub record DirectoryExamples : Type 0 where
  pub new : entries_in directory_data ≡ Some (directory_itself ∷ hole 246 ∷ [])
  pub empty : entries_in [] ≡ Some []
  pub a_file : entries_in (1032 ∷ 0 ∷ 2 ∷ 1 ∷ 0 ∷ 3 ∷ 577 ∷ 16896 ∷ 1 ∷ []) ≡ Some (record { kind = 1; size = 8; file = Some (record { name = codes "AB"; handle = record { id = record { version = 1; serial1 = 0; serial2 = 2 }; leader = record { page = 3 } } }) } ∷ hole 1 ∷ [])
  pub no_size : entries_in (1 ∷ 0 ∷ []) ≡ None
  pub past_the_end : entries_in (1 ∷ 3 ∷ 0 ∷ []) ≡ None
  pub type_3 : entries_in (3073 ∷ []) ≡ None
  pub small_for_its_name : entries_in (1031 ∷ 0 ∷ 2 ∷ 1 ∷ 0 ∷ 3 ∷ 577 ∷ 16897 ∷ []) ≡ None
  pub no_name : entries_in (1031 ∷ 0 ∷ 2 ∷ 1 ∷ 0 ∷ 3 ∷ 0 ∷ []) ≡ None
  pub too_small : entries_in (1025 ∷ []) ≡ None
  pub odd_count : all_words (record { words = Some (1 ∷ 2 ∷ []); count = 3 } ∷ []) ≡ None
  pub even_count : all_words (record { words = Some (1 ∷ 2 ∷ []); count = 2 } ∷ record { words = Some (3 ∷ []); count = 2 } ∷ []) ≡ Some (1 ∷ 3 ∷ [])
  -- a directory that cannot be loaded, since its data cannot be read or page 1 is no leader, has no entries
  pub unread : entries (page_named 1) (spoilt new_pages 2) ≡ []
  pub unled : entries (page_named 1) (put new_pages 1 (a_label free_label)) ≡ []

pub record BookExamples : Type 0 where
  pub new : NewExamples
  pub create : CreateExamples
  pub calls : CallExamples
  pub directory : DirectoryExamples
