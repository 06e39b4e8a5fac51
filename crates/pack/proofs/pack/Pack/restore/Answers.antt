use Rattle.std.proofs.Common.{◌≡◌, ℕ, ◌≤◌, true, List, length, take, Ok, Result, sym, ap, subst, arith}
use Rattle.disk.specs.declared.refusal.Refusal.{Refusal}
use Rattle.disk.specs.Addresses.{page_named, real_address}
use Rattle.disk.specs.Media.{Medium}
use Rattle.survey.specs.declared.table.Record.{Record}
use Rattle.survey.specs.declared.table.Totals.{Totals}
use Rattle.survey.specs.Chains.{Naming, rivalled}
use Rattle.survey.specs.Verdicts.{table_of, totals}
use Rattle.ledger.specs.declared.kept.PackRecord.{PackRecord}
use Rattle.ledger.specs.Runs.{Ran}
use Rattle.ledger.specs.Plans.{Done}
use Rattle.ledger.specs.Mends.{mend_writes, mending, mended_record}
use Rattle.pack.specs.Linking.{Surveyed}
use Rattle.pack.proofs.Doing.{done_well}
use Rattle.pack.proofs.Restored.{Answered, answered, surveyed, record_is}
use Rattle.pack.proofs.pack.Pack.restore.Goals as goal

pub mend-mended-requires : goal.mend-mended-requires
mend-mended-requires g c =
    let m : Medium = g.D.Reader.medium c.args.self.now.drive in
    let name : Naming = page_named m.cylinders in
    let room : length m.pages ≤ length c.args.table.now = omega arith in
    let a : Answered name m.pages c.in_ok-totals.totals = answered name m.pages (length c.args.table.now) c.in_ok-totals.totals room c.in_ok-totals.ensures.answer in
    record { surveyed = subst (λ (x : Medium). Surveyed (page_named x.cylinders) x.pages (take c.pages-pages.result c.survey.new.table)) (sym c.survey.ensures.same) (surveyed name m.pages c.args.table.now c.survey.new.table room a.none c.survey.ensures.table c.pages-pages.result (omega arith) (omega arith)) }

-- The plan of a pack without rivals.
planned : (m : Medium) (k : PackRecord) (r : Result Totals Refusal) (t : Medium) (l : PackRecord) → rivalled m.pages ≡ 0 → Done (mending (page_named m.cylinders) real_address m.pages k 0) m k r t l → Done (mending (page_named m.cylinders) real_address m.pages k (rivalled m.pages)) m k r t l
planned m k r t l e d = subst (λ (n : ℕ). Done (mending (page_named m.cylinders) real_address m.pages k n) m k r t l) (sym e) d

-- What was written, of the drive before the survey.
ran : (m s t u : Medium) (w : Result (Unit {0}) Refusal) → s ≡ m → u ≡ t → Ran (mend_writes (page_named s.cylinders) real_address s.pages) s w t → Ran (mend_writes (page_named m.cylinders) real_address m.pages) m w u
ran m s t u w e h x = rw h (subst (λ (z : Medium). Ran (mend_writes (page_named z.cylinders) real_address z.pages) z w t) e x)

pub returns-clause-done : goal.returns-clause-done
returns-clause-done g c =
    let m : Medium = g.D.Reader.medium c.args.self.now.drive in
    let t : Medium = g.D.Reader.medium c.ready_unless_refused.new.self.drive in
    let k : PackRecord = c.args.self.now.kept in
    let l : PackRecord = record { ready = true; highest = c.largest_serial.result; bits = c.mended_bits.result } in
    let name : Naming = page_named m.cylinders in
    let vs : List Record = c.survey.new.table in
    let room : length m.pages ≤ length c.args.table.now = omega arith in
    let a : Answered name m.pages c.in_ok-totals.totals = answered name m.pages (length c.args.table.now) c.in_ok-totals.totals room c.in_ok-totals.ensures.answer in
    let size : c.pages-pages.result ≡ length m.pages = omega arith in
    let kept : l ≡ mended_record name m.pages = record_is name m.pages c.args.table.now vs room a.none c.survey.ensures.table (take c.pages-pages.result vs) c.largest_serial.result c.mended_bits.result (ap (λ (n : ℕ). take n vs) size) c.largest_serial.ensures c.mended_bits.ensures in
    planned m k (Ok c.in_ok-totals.totals) t l a.none
    (done_well (mend_writes name real_address m.pages) (totals (table_of name m.pages)) (mended_record name m.pages) k l m t c.mend-mended.result c.in_ok-totals.totals tt a.is c.in_default.ensures.answer
    (ran m (g.D.Reader.medium c.survey.new.self.drive) (g.D.Reader.medium c.mend-mended.new.drive) t c.mend-mended.result c.survey.ensures.same (ap g.D.Reader.medium c.ready_unless_refused.ensures.drive) c.mend-mended.ensures)
    kept)
