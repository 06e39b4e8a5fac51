-- What a scavenge that goes through leaves, on every pack.
use Rattle.std.specs.Prelude.{◌≡◌, ℕ, ◌≤◌, true, false, ◌⊎◌, List, length, is_ok, Result}
use Rattle.disk.specs.declared.refusal.Refusal.{Refusal}
use Rattle.disk.specs.Addresses.{page_named, real_address}
use Rattle.disk.specs.Media.{Page, Medium, label_at, data_at}
use Rattle.survey.specs.declared.table.Totals.{Totals}
use Rattle.survey.specs.Chains.{Naming, rivalled}
use Rattle.ledger.specs.declared.kept.PackRecord.{PackRecord}
use Rattle.ledger.specs.Plans.{Plan, Done, IsPlanned}
use Rattle.ledger.specs.Frames.{SameChains}
use Rattle.ledger.specs.Mends.{mended_label, scavenge_plan, scavenge_start}
use Rattle.ledger.specs.Ledgers.{located, files, entries}
use Rattle.ledger.specs.States.{KeptState}

-- Pages of which both have the same data, the same files, each with the same pages in order, and the same
-- directory.
pub record SameFiles (name : Naming) (before later : List Page) : Type 0 where
  pub count : length later ≡ length before
  pub words : (p : ℕ) → data_at later p ≡ data_at before p
  pub chains : SameChains name before later
  pub same_located : located name later ≡ located name before
  pub same_files : files name later ≡ files name before
  pub same_entries : entries name later ≡ entries name before

-- The pages before and after it, and its record: the files are the same; each page has the label that it is
-- to have; and all are in order, so that a second scavenge finds nothing to mend.
pub record Mended (name : Naming) (real : ℕ → ℕ) (before later : List Page) (k : PackRecord) : Type 0 where
  pub same : SameFiles name before later
  pub labels : (p : ℕ) → label_at later p ≡ mended_label name real before p
  pub kept : KeptState name real later k

-- The promise of a scavenge on a drive, with a table of so many records.
abbrev pub scavenge_of : Medium → PackRecord → ℕ → Plan Totals
scavenge_of m k room = scavenge_plan (page_named m.cylinders) real_address m.pages k room

abbrev pub Scavenged : Medium → PackRecord → ℕ → Result Totals Refusal → Medium → PackRecord → Type 0
Scavenged m k room r t l = Done (scavenge_of m k room) (scavenge_start m room) k r t l

-- On a steady drive that is a value.
abbrev pub ScavengeValue : Medium → PackRecord → ℕ → Result Totals Refusal → Medium → PackRecord → Type 0
ScavengeValue m k room r t l = m.steady ≡ true → IsPlanned (scavenge_of m k room) (scavenge_start m room) r t l

-- With enough records, and unless rivals stand there, it goes through or the drive has turned off.
abbrev pub ThroughOrOff : Medium → ℕ → Result Totals Refusal → Medium → Type 0
ThroughOrOff m room r t = length m.pages ≤ room → rivalled m.pages ≡ 0 → (is_ok r ≡ true) ⊎ (t.on ≡ false)

-- If it goes through, the pack is mended.
abbrev pub ThenMended : Medium → Result Totals Refusal → Medium → PackRecord → Type 0
ThenMended m r t l = is_ok r ≡ true → Mended (page_named m.cylinders) real_address m.pages t.pages l

-- However it ends, also where power fails at one of its writes: the files are the same as before, and no
-- rivals have come up, so that another scavenge can go on.
pub record StillThere (name : Naming) (before later : List Page) : Type 0 where
  pub same : SameFiles name before later
  pub no_rivals : rivalled later ≡ 0

abbrev pub NothingLostOnTheWay : Medium → Medium → Type 0
NothingLostOnTheWay m t = rivalled m.pages ≡ 0 → StillThere (page_named m.cylinders) m.pages t.pages
