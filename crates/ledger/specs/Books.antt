-- What a pack owes its user: the book of a list of calls, and the law of power failures.
use Rattle.std.specs.Prelude.{◌≡◌, ℕ, ◌+◌, ◌-◌, ◌*◌, ◌<◌, ◌≤◌, max, Bool, true, false, cond, ◌⊎◌, List, [], ◌∷◌, ◌++◌, length, take, replicate, is_ok, Some, None, Ok, Err, codes, Option, Result, ◌≢◌, nat_lt, slice_index_or, slice_set}
use Rattle.std.specs.Option.{option_map}
use Rattle.disk.specs.declared.refusal.Refusal.{Refusal}
use Rattle.disk.specs.declared.refusal.Reason.TheVariants.{TooSmall, Hardware, Rivals}
use Rattle.disk.specs.declared.refusal.Place.TheVariants.{Pack}
use Rattle.disk.specs.Addresses.{page_named, real_address}
use Rattle.disk.specs.Labels.{numbered, serial_number}
use Rattle.disk.specs.Refusals.{refusal, refusal_of_two}
use Rattle.disk.specs.Media.{Page, Medium, label_at, spun_up}
use Rattle.survey.specs.declared.table.Totals.{Totals}
use Rattle.survey.specs.Chains.{Naming, rivalled, rival_of}
use Rattle.survey.specs.Verdicts.{table_of, totals}
use Rattle.ledger.specs.declared.kept.PackRecord.{PackRecord}
use Rattle.ledger.specs.declared.handle.Handle.{Handle}
use Rattle.ledger.specs.Plans.{Plan, refuses, writes, first_record, unready, Done}
use Rattle.ledger.specs.Formats.{leader_data, directory_id, format_plan}
use Rattle.ledger.specs.Mends.{scavenge_plan, scavenge_start}
use Rattle.ledger.specs.Directories.{Entry}
use Rattle.ledger.specs.Ledgers.{DataPage, File, Ledger, ledger_of}
use Rattle.ledger.specs.States.{InOrder, KeptState}
use Rattle.ledger.specs.Calls.{create_plan, append_plan, replace_plan, truncate_plan, delete_plan}

-- The steps of a ledger -------------------------------------------------------------------------------

-- A new pack of n pages: no file, SYSDIR's own entry of 10 words and a hole of 246, highest serial 1.
abbrev pub directory_itself : Entry
directory_itself = record { kind = 1; size = 10; file = Some (record { name = codes "SYSDIR"; handle = record { id = directory_id; leader = record { page = 1 } } }) }

abbrev pub hole : ℕ → Entry
hole n = record { kind = 0; size = n; file = None }

abbrev pub opening : ℕ → Ledger
opening n = record { files = replicate n None; entries = directory_itself ∷ hole 246 ∷ []; highest = 1 }

-- The ledger with another file, or none, at the address q; and with the file there changed.
abbrev pub with_file : ℕ → Option File → Ledger → Ledger
with_file q f b = record { files = slice_set b.files q f; entries = b.entries; highest = b.highest }

abbrev pub changed : ℕ → (List DataPage → List DataPage) → Ledger → Ledger
changed q change b = with_file q (option_map (λ f. record { id = f.id; leader = f.leader; pages = change f.pages }) (slice_index_or b.files q None)) b

abbrev pub data_page : List ℕ → ℕ → DataPage
data_page ws c = record { words = Some (take 256 ws); count = c }

-- A new file at page p, with no data pages and a serial one above the highest.
abbrev pub created : ℕ → ℕ → ℕ → Ledger → Ledger
created high low p b = record {
  files = slice_set b.files p (Some (record { id = numbered 1 (b.highest + 1); leader = Some (leader_data high low); pages = [] }));
  entries = b.entries;
  highest = b.highest + 1;
}

-- The data pages with one more; with page i new, where the first is 1; and cut off behind page i, whose
-- count is c then.
abbrev pub longer : List ℕ → ℕ → List DataPage → List DataPage
longer ws c ds = ds ++ data_page ws c ∷ []

abbrev pub with_new : ℕ → List ℕ → ℕ → List DataPage → List DataPage
with_new i ws c ds = slice_set ds (i - 1) (data_page ws c)

abbrev pub ended_with : ℕ → List DataPage → List DataPage
ended_with c [] = []
ended_with c (d ∷ []) = record { words = d.words; count = c } ∷ []
ended_with c (d ∷ e ∷ ds) = d ∷ ended_with c (e ∷ ds)

abbrev pub shorter : ℕ → ℕ → List DataPage → List DataPage
shorter i c ds = ended_with c (take i ds)

-- The largest serial of the files, 0 where there is none. A scavenge sets the highest to it, at least 1.
abbrev pub serial_of : Option File → ℕ
serial_of None = 0
serial_of (Some f) = serial_number f.id

abbrev pub largest : List (Option File) → ℕ
largest [] = 0
largest (f ∷ fs) = max (serial_of f) (largest fs)

abbrev pub scavenged : Ledger → Ledger
scavenged b = record { files = b.files; entries = b.entries; highest = max 1 (largest b.files) }

-- Calls and their promises ----------------------------------------------------------------------------

-- A pack in a drive: what the drive is, and what is kept in memory.
pub record State : Type 0 where
  pub medium : Medium
  pub kept : PackRecord

-- A call with its arguments: a survey or a scavenge with a table of so many records; create with a time;
-- append with words and a count; replace of a page; truncate to a page and its count; delete.
pub data Call : Type 0 where
  a_survey : ℕ → Call
  a_scavenge : ℕ → Call
  a_create : ℕ → ℕ → Call
  an_append : Handle → List ℕ → ℕ → Call
  a_replace : Handle → ℕ → List ℕ → ℕ → Call
  a_truncate : Handle → ℕ → ℕ → Call
  a_delete : Handle → Call

-- What a call answers where it goes through.
abbrev pub Answer : Call → Type 0
Answer (a_survey room) = Totals
Answer (a_scavenge room) = Totals
Answer (a_create high low) = Handle
Answer (an_append h ws c) = Unit {0}
Answer (a_replace h i ws c) = Unit {0}
Answer (a_truncate h i c) = Unit {0}
Answer (a_delete h) = Unit {0}

-- A survey writes nothing. Too few records are refused first, then rivals, which leave the pack not ready.
abbrev pub survey_plan : Naming → List Page → PackRecord → ℕ → Plan Totals
survey_plan name ps k room =
    cond (nat_lt room (length ps)) (refuses (refusal TooSmall Pack 0) k)
    (cond (nat_lt 0 (rivalled ps)) (refuses (refusal_of_two Rivals Pack (rivalled ps) (rival_of ps (rivalled ps))) (unready k)) (writes [] (totals (table_of name ps)) k))

abbrev pub plan_of : (c : Call) → State → Plan (Answer c)
plan_of (a_survey room) s = survey_plan (page_named s.medium.cylinders) s.medium.pages s.kept room
plan_of (a_scavenge room) s = scavenge_plan (page_named s.medium.cylinders) real_address s.medium.pages s.kept room
plan_of (a_create high low) s = create_plan s.medium.pages s.kept high low
plan_of (an_append h ws c) s = append_plan (page_named s.medium.cylinders) real_address s.medium.pages s.kept h ws c
plan_of (a_replace h i ws c) s = replace_plan (page_named s.medium.cylinders) real_address s.medium.pages s.kept h i ws c
plan_of (a_truncate h i c) s = truncate_plan (page_named s.medium.cylinders) s.medium.pages s.kept h i c
plan_of (a_delete h) s = delete_plan (page_named s.medium.cylinders) s.medium.pages s.kept h

-- Only a scavenge turns the drive on.
abbrev pub start_of : Call → Medium → Medium
start_of (a_survey room) m = m
start_of (a_scavenge room) m = scavenge_start m room
start_of (a_create high low) m = m
start_of (an_append h ws c) m = m
start_of (a_replace h i ws c) m = m
start_of (a_truncate h i c) m = m
start_of (a_delete h) m = m

-- The promise of a call between two states, by its answer.
abbrev pub Does : (c : Call) → State → Result (Answer c) Refusal → State → Type 0
Does c s r t = Done (plan_of c s) (start_of c s.medium) s.kept r t.medium t.kept

abbrev pub Formatted : State → State → Type 0
Formatted s t = Done (format_plan (length s.medium.pages)) (spun_up s.medium) s.kept (Ok tt) t.medium t.kept

-- Traces and the book ---------------------------------------------------------------------------------

-- How a pack came to its state: a format that went through, and any calls with their answers behind it,
-- each from the state that the one before left. A drive may also be taken out and put into a pack anew,
-- as after a power failure, when nothing is left in memory. (A format that was cut leaves no pack, and is
-- the only call after which nothing is owed; one that went through begins a trace of its own.)
pub data Trace : State → Type 0 where
  new : (s : State) {t : State} → Formatted s t → Trace t
  more : {s t : State} → Trace s → (c : Call) (r : Result (Answer c) Refusal) → Does c s r t → Trace t
  anew : (s : State) → Trace s → Trace (record { medium = s.medium; kept = first_record })

-- The page at which a call's step is taken: create's is the one answered.
abbrev pub page_of : (c : Call) → Answer c → ℕ
page_of (a_survey room) a = 0
page_of (a_scavenge room) a = 0
page_of (a_create high low) h = h.leader.page
page_of (an_append h ws c) a = 0
page_of (a_replace h i ws c) a = 0
page_of (a_truncate h i c) a = 0
page_of (a_delete h) a = 0

-- The step of each call, create's at page p.
abbrev pub step_of : Call → ℕ → Ledger → Ledger
step_of (a_survey room) p b = b
step_of (a_scavenge room) p b = scavenged b
step_of (a_create high low) p b = created high low p b
step_of (an_append h ws c) p b = changed h.leader.page (longer ws c) b
step_of (a_replace h i ws c) p b = changed h.leader.page (with_new i ws c) b
step_of (a_truncate h i c) p b = changed h.leader.page (shorter i c) b
step_of (a_delete h) p b = with_file h.leader.page None b

-- A call that went through takes its step. A refusal is no step; but where the drive refused a write, the
-- step is taken whole or not at all, create's at the page that the refusal names.
abbrev pub Entered : (c : Call) → Result (Answer c) Refusal → Ledger → Ledger → Type 0
Entered c (Ok a) before later = later ≡ step_of c (page_of c a) before
Entered c (Err e) before later = (later ≡ before) ⊎ ((e.reason ≡ Hardware) × (later ≡ step_of c e.page.page before))

-- The ledgers that a trace is entitled to.
abbrev pub Book : {t : State} → Trace t → Ledger → Type 0
Book (new s f) b = b ≡ opening (length s.medium.pages)
Book (more h c r d) b = (a : Ledger) × (Book h a × Entered c r a b)
Book (anew s h) b = Book h b

-- The ledger of a pack in a drive.
abbrev pub ledger_in : State → Ledger
ledger_in s = ledger_of (page_named s.medium.cylinders) s.medium.pages s.kept

-- The law of power failures -----------------------------------------------------------------------------

-- A drive has 24 pages for each of 1 to 406 cylinders.
pub record Sized (m : Medium) : Type 0 where
  pub least : 1 ≤ m.cylinders
  pub most : m.cylinders ≤ 406
  pub pages : length m.pages ≡ 24 * m.cylinders

-- No page above 0 has a label that cannot be read.
abbrev pub AllReadable : List Page → Type 0
AllReadable ps = (p : ℕ) → 0 < p → p < length ps → label_at ps p ≢ None

-- A scavenge after a trace, with its answer: it goes through or the drive turned off under it; if it goes
-- through, every page above 0 can be read and is free or in exactly one chain, in order, and the ledger is a
-- book of the trace with this scavenge added.
pub record FoundAgain (s t : State) (h : Trace s) (room : ℕ) (r : Result Totals Refusal) (d : Does (a_scavenge room) s r t) : Type 0 where
  pub goes_through : (is_ok r ≡ true) ⊎ (t.medium.on ≡ false)
  pub order : is_ok r ≡ true → InOrder (page_named t.medium.cylinders) real_address t.medium.pages
  pub readable : is_ok r ≡ true → AllReadable t.medium.pages
  pub book : is_ok r ≡ true → Book (more h (a_scavenge room) r d) (ledger_in t)

-- After every trace, with a table that has a record for each page.
abbrev pub NothingIsLost : Type 0
NothingIsLost =
    (s t : State) (h : Trace s) (room : ℕ) (r : Result Totals Refusal) (d : Does (a_scavenge room) s r t) → Sized s.medium → length s.medium.pages ≤ room → FoundAgain s t h room r d

-- What every call on files keeps where it goes through, from a pack in order whose record fits it, and how
-- it changes the ledger: by its own step.
pub record FilesKept (s t : State) (c : Call) (a : Answer c) : Type 0 where
  pub state : KeptState (page_named t.medium.cylinders) real_address t.medium.pages t.kept
  pub step : ledger_in t ≡ step_of c (page_of c a) (ledger_in s)

abbrev pub is_on_files : Call → Bool
is_on_files (a_survey room) = false
is_on_files (a_scavenge room) = false
is_on_files (a_create high low) = true
is_on_files (an_append h ws c) = true
is_on_files (a_replace h i ws c) = true
is_on_files (a_truncate h i c) = true
is_on_files (a_delete h) = true

abbrev pub CallsKeepOrder : Type 0
CallsKeepOrder =
    (s t : State) (c : Call) (a : Answer c) → is_on_files c ≡ true → Sized s.medium → KeptState (page_named s.medium.cylinders) real_address s.medium.pages s.kept → Does c s (Ok a) t → FilesKept s t c a
