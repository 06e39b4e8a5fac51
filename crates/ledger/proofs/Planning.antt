-- A plan on a steady drive is a value.
use Rattle.std.proofs.Common.{ℕ, zero, suc, ◌+◌, ◌-◌, ◌<◌, ◌≤◌, map, length, Ok, Err, Result, refl, ap, arith}
use Rattle.std.specs.List.{range_with_len, AllByRecursion}
use Rattle.std.proofs.ByRecursion.{All-append}
use Rattle.disk.specs.declared.refusal.Refusal.{Refusal}
use Rattle.disk.specs.Media.{Medium, spun_up}
use Rattle.ledger.specs.declared.kept.PackRecord.{PackRecord}
use Rattle.ledger.specs.Runs.{Inside, freeing, freed_all}
use Rattle.ledger.specs.Plans.{Plan, refuses, writes, Done, Planned}
use Rattle.ledger.specs.Formats.{directory_writes, format_writes, format_plan, FormatValue}
use Rattle.ledger.proofs.Running.{through_whole, steady_on}

pub planned : {A : Type 0} (p : Plan A) (m : Medium) (k : PackRecord) (r : Result A Refusal) (t : Medium) (l : PackRecord) → Done p m k r t l → Planned p m r t l
planned (refuses e after) m k r t l d s o i = record { answer = d.0; medium = d.1.0; kept = d.1.1 }
planned (writes ws a after) m k (Ok b) t l d s o i = record { answer = ap {B = Result _ Refusal} Ok d.0; medium = through_whole ws m t d.1.0; kept = d.1.1 }
planned (writes ws a after) m k (Err e) t l d s o i = absurd (steady_on ws m e t s o i d.0)

-- All writes of a format are to pages of the pack.
freed_inside : (n a k : ℕ) → a + k ≤ n → AllByRecursion (λ w. w.page < n) (map freeing (range_with_len a k))
freed_inside n a zero h = tt
freed_inside n a (suc k) h = (omega arith, freed_inside n (a + 1) k (omega arith))

pub format_inside : (m : Medium) → 3 ≤ length m.pages → Inside (format_writes (length m.pages)) m
format_inside m h =
    let n = length m.pages in
    All-append (λ w. w.page < length m.pages) (freed_all (length m.pages)) directory_writes (freed_inside (length m.pages) 1 (length m.pages - 1) (omega arith)) (omega arith, (omega arith, (omega arith, (omega arith, tt))))

-- So on a steady drive a format is a value.
pub format_value : (m : Medium) (k : PackRecord) (r : Result (Unit {0}) Refusal) (t : Medium) (l : PackRecord) → 3 ≤ length m.pages → Done (format_plan (length m.pages)) (spun_up m) k r t l → FormatValue m r t l
format_value m k r t l h d s = planned (format_plan (length m.pages)) (spun_up m) k r t l d s refl (format_inside (spun_up m) h)
