-- What each call on files is to write, or why it is refused.
use Rattle.std.specs.Prelude.{ℕ, ◌+◌, ◌-◌, Bool, cond, not, ◌&&◌, ◌||◌, List, [], ◌∷◌, ◌++◌, map, length, take, drop, Some, None, Option, ◌==◌, nat_le, nat_lt, slice_index}
use Rattle.disk.specs.declared.label.Label.{Label}
use Rattle.disk.specs.declared.refusal.Reason.{Reason}
use Rattle.disk.specs.declared.refusal.Reason.TheVariants.{TooSmall, TooBig, BadParameter, BadState, BadFile, PageNotFull, PageNumberTooSmall, BadDiskAddress, TooMany, NoFreePage, LabelNotFree}
use Rattle.disk.specs.declared.refusal.Place.{Place}
use Rattle.disk.specs.declared.refusal.Place.TheVariants.{Pack, File}
use Rattle.disk.specs.Labels.{free_label, numbered}
use Rattle.disk.specs.Refusals.{refusal}
use Rattle.disk.specs.Media.{Page, label_at, Write, label_write, data_write}
use Rattle.survey.specs.Chains.{Naming, same_file, is_leader, chain}
use Rattle.ledger.specs.declared.kept.PackRecord.{PackRecord}
use Rattle.ledger.specs.declared.handle.Handle.{Handle}
use Rattle.ledger.specs.Runs.{freeing}
use Rattle.ledger.specs.Plans.{Plan, refuses, writes, unready}
use Rattle.ledger.specs.Formats.{leader_data, new_label}
use Rattle.ledger.specs.Frames.{with_previous}
use Rattle.ledger.specs.Ledgers.{id_on, count_on}
use Rattle.ledger.specs.Searches.{searched, free_label_at, with_taken, with_freed, with_all_freed, with_highest}

-- A row of the table of refusals: whether it applies, and what is refused then. Rows apply top down, and
-- these leave the record as it is.
pub record Row : Type 0 where
  pub applies : Bool
  pub reason : Reason
  pub place : Place
  pub page : ℕ

abbrev pub row : Bool → Reason → Place → ℕ → Row
row b why place p = record { applies = b; reason = why; place = place; page = p }

abbrev pub past_rows : {A : Type 0} → List Row → PackRecord → Plan A → Plan A
past_rows [] k plan = plan
past_rows (r ∷ rs) k plan = cond r.applies (refuses (refusal r.reason r.place r.page) k) (past_rows rs k plan)

-- Fewer words are handed over than a page has.
abbrev pub few_words : List ℕ → Row
few_words ws = row (nat_lt (length ws) 256) TooSmall Pack 0

abbrev pub not_ready : PackRecord → Row
not_ready k = row (not k.ready) BadState Pack 0

-- A handle whose address is no page above 0 of the pack, or where no leader of its id stands.
abbrev pub no_page : List Page → Handle → Row
no_page ps h = row (h.leader.page == 0 || nat_le (length ps) h.leader.page) BadDiskAddress File 0

abbrev pub no_leader : List Page → Handle → Row
no_leader ps h = row (not (is_leader ps h.leader.page && same_file (id_on (label_at ps h.leader.page)) h.id)) BadFile File h.leader.page

-- The file at page 1 is not changed by file calls.
abbrev pub at_page_1 : Handle → Row
at_page_1 h = row (h.leader.page == 1) BadParameter File 1

-- The rows that every file call has which changes a file.
abbrev pub file_rows : List Page → PackRecord → Handle → List Row
file_rows ps k h = not_ready k ∷ no_page ps h ∷ no_leader ps h ∷ at_page_1 h ∷ []

-- A page past the last of a chain; a count above 512 or above another limit.
abbrev pub past_last : List ℕ → Handle → ℕ → Row
past_last pages h i = row (nat_le (length pages) i) TooBig File h.leader.page

abbrev pub count_above : ℕ → Handle → ℕ → Row
count_above limit h c = row (nat_lt limit c) TooBig File h.leader.page

-- Page i of a list of pages, and the label of a page.
abbrev pub page_at : List ℕ → ℕ → ℕ
page_at pages i = slice_index pages i

abbrev pub label_or_free : Option Label → Label
label_or_free None = free_label
label_or_free (Some l) = l

abbrev pub its_label : List Page → ℕ → Label
its_label ps p = label_or_free (label_at ps p)

-- A label with another next link; and with another count too.
abbrev pub with_next : ℕ → Label → Label
with_next w l = record { next = record { word = w }; previous = l.previous; blank = l.blank; characters = l.characters; number = l.number; version = l.version; serial1 = l.serial1; serial2 = l.serial2 }

abbrev pub cut_off : ℕ → Label → Label
cut_off c l = record { next = record { word = 0 }; previous = l.previous; blank = l.blank; characters = c; number = l.number; version = l.version; serial1 = l.serial1; serial2 = l.serial2 }

-- A plan that needs a page: it is refused where none is free by the bits, and where the page that was
-- found lacks the free label; then the record is not to be trusted.
abbrev pub on_page : {A : Type 0} → List Page → PackRecord → (ℕ → Plan A) → Option ℕ → Plan A
on_page ps k plan None = refuses (refusal NoFreePage Pack 0) k
on_page ps k plan (Some f) = cond (free_label_at (label_at ps f)) (plan f) (refuses (refusal LabelNotFree Pack f) (unready k))

-- The first free page from behind page p on, and round.
abbrev pub behind_page : List Page → PackRecord → ℕ → Option ℕ
behind_page ps k p = searched k (p + 1) (length ps)

-- Create, at a time of two words. The new file has version 1, both marks 0 and a serial one above the
-- highest, of which 1,073,741,823 is the last. The search begins at page 1.
abbrev pub last_serial : ℕ
last_serial = 1073741823

abbrev pub create_at : PackRecord → ℕ → ℕ → ℕ → Plan Handle
create_at k high low f =
    writes (data_write f (leader_data high low) ∷ label_write f (new_label 0 0 512 0 (numbered 1 (k.highest + 1))) ∷ [])
    (record { id = numbered 1 (k.highest + 1); leader = record { page = f } })
    (with_highest (with_taken k f) (k.highest + 1))

abbrev pub create_plan : List Page → PackRecord → ℕ → ℕ → Plan Handle
create_plan ps k high low =
    past_rows (not_ready k ∷ row (nat_le last_serial k.highest) TooMany Pack 0 ∷ []) k
    (on_page ps k (create_at k high low) (searched k 1 (length ps)))

-- Append, behind the last page z of a chain: new data, new label, then the predecessor's next.
abbrev pub append_at : (ℕ → ℕ) → List Page → PackRecord → List ℕ → Handle → List ℕ → ℕ → ℕ → Plan (Unit {0})
append_at real ps k pages h ws c f =
    let z = page_at pages (length pages - 1) in
    writes (data_write f (take 256 ws) ∷ label_write f (new_label 0 (real z) c (length pages) h.id) ∷ label_write z (with_next (real f) (its_label ps z)) ∷ [])
    tt (with_taken k f)

abbrev pub last_not_full : List Page → List ℕ → Row
last_not_full ps pages = row (nat_lt (count_on (label_at ps (page_at pages (length pages - 1)))) 512) PageNotFull File (page_at pages (length pages - 1))

abbrev pub append_along : (ℕ → ℕ) → List Page → PackRecord → List ℕ → Handle → List ℕ → ℕ → Plan (Unit {0})
append_along real ps k pages h ws c =
    past_rows (few_words ws ∷ file_rows ps k h ++ count_above 512 h c ∷ last_not_full ps pages ∷ []) k
    (on_page ps k (append_at real ps k pages h ws c) (behind_page ps k (page_at pages (length pages - 1))))

abbrev pub append_plan : Naming → (ℕ → ℕ) → List Page → PackRecord → Handle → List ℕ → ℕ → Plan (Unit {0})
append_plan name real ps k h ws c = append_along real ps k (chain name ps h.leader.page) h ws c

-- Replace of page i on a new page: new data, new label, the predecessor's next, the successor's previous,
-- and the old page free.
abbrev pub back_link : (ℕ → ℕ) → List Page → ℕ → ℕ → List Write
back_link real ps s f = cond (nat_lt 0 s) (label_write s (with_previous (real f) (its_label ps s)) ∷ []) []

abbrev pub replace_at : (ℕ → ℕ) → List Page → PackRecord → List ℕ → Handle → ℕ → List ℕ → ℕ → ℕ → Plan (Unit {0})
replace_at real ps k pages h i ws c f =
    let z = page_at pages (i - 1) in
    let old = page_at pages i in
    let s = page_at pages (i + 1) in
    writes (data_write f (take 256 ws) ∷ label_write f (new_label (real s) (real z) c i h.id) ∷ label_write z (with_next (real f) (its_label ps z)) ∷ back_link real ps s f ++ freeing old ∷ [])
    tt (with_freed (with_taken k f) old)

abbrev pub short_inside : List ℕ → ℕ → ℕ → Row
short_inside pages i c = row (nat_lt (i + 1) (length pages) && nat_lt c 512) PageNotFull File (page_at pages i)

abbrev pub replace_along : (ℕ → ℕ) → List Page → PackRecord → List ℕ → Handle → ℕ → List ℕ → ℕ → Plan (Unit {0})
replace_along real ps k pages h i ws c =
    past_rows (few_words ws ∷ file_rows ps k h ++ row (i == 0) PageNumberTooSmall File h.leader.page ∷ past_last pages h i ∷ count_above 512 h c ∷ short_inside pages i c ∷ []) k
    (on_page ps k (replace_at real ps k pages h i ws c) (behind_page ps k (page_at pages (i - 1))))

abbrev pub replace_plan : Naming → (ℕ → ℕ) → List Page → PackRecord → Handle → ℕ → List ℕ → ℕ → Plan (Unit {0})
replace_plan name real ps k h i ws c = replace_along real ps k (chain name ps h.leader.page) h i ws c

-- Truncate keeps the pages up to page i and sets its count: page i's label, then the free label on each
-- page dropped. A leader counts as holding 0 bytes, and its label keeps 512.
abbrev pub held : List Page → List ℕ → ℕ → ℕ
held ps pages i = cond (i == 0) 0 (count_on (label_at ps (page_at pages i)))

abbrev pub last_count : ℕ → ℕ → ℕ
last_count i c = cond (i == 0) 512 c

abbrev pub truncate_along : List Page → PackRecord → List ℕ → Handle → ℕ → ℕ → Plan (Unit {0})
truncate_along ps k pages h i c =
    past_rows (file_rows ps k h ++ past_last pages h i ∷ count_above 512 h c ∷ count_above (held ps pages i) h c ∷ []) k
    (writes (label_write (page_at pages i) (cut_off (last_count i c) (its_label ps (page_at pages i))) ∷ map freeing (drop (i + 1) pages)) tt (with_all_freed k (drop (i + 1) pages)))

abbrev pub truncate_plan : Naming → List Page → PackRecord → Handle → ℕ → ℕ → Plan (Unit {0})
truncate_plan name ps k h i c = truncate_along ps k (chain name ps h.leader.page) h i c

-- Delete: the free label on the leader, then on each data page.
abbrev pub delete_plan : Naming → List Page → PackRecord → Handle → Plan (Unit {0})
delete_plan name ps k h =
    past_rows (file_rows ps k h) k
    (writes (map freeing (chain name ps h.leader.page)) tt (with_all_freed k (chain name ps h.leader.page)))
