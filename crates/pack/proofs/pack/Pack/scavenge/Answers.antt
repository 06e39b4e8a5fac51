use Rattle.std.proofs.Common.{◌≡◌, ℕ, ◌≤◌, Bool, cond, length, Result, sym, subst, arith}
use Rattle.std.proofs.lemmas.Bool.{le-ltb}
use Rattle.disk.specs.declared.refusal.Refusal.{Refusal}
use Rattle.disk.specs.declared.refusal.Reason.TheVariants.{TooSmall}
use Rattle.disk.specs.declared.refusal.Place.TheVariants.{Pack}
use Rattle.disk.specs.Refusals.{refusal}
use Rattle.disk.specs.Addresses.{page_named, real_address}
use Rattle.disk.specs.Media.{Medium, spun_up}
use Rattle.disk.proofs.Naming.{conversion}
use Rattle.survey.specs.declared.table.Totals.{Totals}
use Rattle.survey.specs.Chains.{rivalled}
use Rattle.ledger.specs.declared.kept.PackRecord.{PackRecord}
use Rattle.ledger.specs.Plans.{Done, refuses}
use Rattle.ledger.specs.Mends.{mending, scavenge_table}
use Rattle.ledger.specs.Books.{Sized}
use Rattle.ledger.specs.Scavenges.{Scavenged}
use Rattle.ledger.proofs.Scavenging.{scavenge_value, through_or_off, then_mended, nothing_lost}
use Rattle.pack.proofs.pack.Pack.scavenge.Goals as goal

-- The drive was spun up, and the table is long enough.
by_plan : (m s : Medium) (k : PackRecord) (room : ℕ) (r : Result Totals Refusal) (t : Medium) (l : PackRecord) → s ≡ spun_up m → length m.pages ≤ room → Done (mending (page_named s.cylinders) real_address s.pages k (rivalled s.pages)) s k r t l → Scavenged m k room r t l
by_plan m s k room r t l e h d =
    subst (λ (b : Bool). Done (cond b (refuses (refusal TooSmall Pack 0) k) (mending (page_named m.cylinders) real_address m.pages k (rivalled m.pages))) (cond b m (spun_up m)) k r t l) (sym (le-ltb room (length m.pages) h))
    (subst (λ (x : Medium). Done (mending (page_named x.cylinders) real_address x.pages k (rivalled x.pages)) x k r t l) e d)

pub returns : goal.returns
returns g c =
    let m : Medium = g.D.Reader.medium c.args.self.now.drive in
    let s : Medium = g.D.Reader.medium c.spin_up.new.self in
    let k : PackRecord = c.args.self.now.kept in
    let t : Medium = g.D.Reader.medium c.restore.new.self.drive in
    let l : PackRecord = c.restore.new.self.kept in
    let room : ℕ = length c.args.table.now in
    let z = c.cylinders.result in
    let count : z.count ≡ m.cylinders = c.cylinders.ensures.count in
    let size : Sized m = record { least = (let a = z.fits in omega arith); most = (let a = z.fits in omega arith); pages = (let a = c.cylinders.ensures.pages in omega arith) } in
    let conv = conversion m.cylinders size.most in
    let d : Scavenged m k room c.restore.result t l = by_plan m s k room c.restore.result t l c.spin_up.ensures (omega arith) c.restore.ensures.done in
    record {
      done = d;
      table = subst (λ (x : Medium). c.restore.new.table ≡ scavenge_table (page_named x.cylinders) x.pages c.args.table.now c.restore.result) c.spin_up.ensures c.restore.ensures.table;
      value = scavenge_value m k room size conv c.restore.result t l d;
      through = through_or_off m k room size conv c.restore.result t l d;
      files = nothing_lost m k room size conv c.restore.result t l d;
      mended = then_mended m k room size conv c.restore.result t l d;
    }
