use Rattle.std.proofs.Common.{◌≡◌, ℕ, ◌*◌, true, List, length, Ok, Result, sym, refl, ap, ◌∙◌, subst, arith, rules}
use Rattle.disk.specs.declared.refusal.Refusal.{Refusal}
use Rattle.disk.specs.Media.{Medium, spun_up}
use Rattle.bits.specs.Bits.{free_all, none_free}
use Rattle.ledger.specs.declared.kept.PackRecord.{PackRecord}
use Rattle.ledger.specs.Runs.{Ran}
use Rattle.ledger.specs.Plans.{Done}
use Rattle.ledger.specs.Formats.{format_writes, format_plan, new_record, new_free}
use Rattle.ledger.specs.Books.{Sized}
use Rattle.ledger.proofs.Planning.{planned, format_value}
use Rattle.ledger.proofs.News.{new_from}
use Rattle.pack.proofs.Doing.{done_well, done_refused}
use Rattle.pack.proofs.pack.Pack.format.Goals as goal

-- What was written, of the drive that was not on yet.
ran : (m s t u : Medium) (w : Result (Unit {0}) Refusal) → s ≡ spun_up m → u ≡ t → Ran (format_writes (length s.pages)) s w t → Ran (format_writes (length m.pages)) (spun_up m) w u
ran m s t u w e h x = rw h (subst (λ (z : Medium). Ran (format_writes (length z.pages)) z w t) e x)

pub returns-in_err-ready_unless_refused : goal.returns-in_err-ready_unless_refused
returns-in_err-ready_unless_refused g c =
    let m : Medium = g.D.Reader.medium c.args.self.now.drive in
    let t : Medium = g.D.Reader.medium c.ready_unless_refused.new.self.drive in
    let k : PackRecord = c.args.self.now.kept in
    let l : PackRecord = c.ready_unless_refused.new.self.kept in
    let same = ap (λ (x : Medium). length x.pages) c.spin_up.ensures in
    let d : Done (format_plan (length m.pages)) (spun_up m) k c.from_residual.result t l =
    done_refused (format_writes (length m.pages)) tt (new_record (length m.pages)) k l (spun_up m) t c.write_new-written.result c.from_residual.result c.in_err-ready_unless_refused.field-0.0
    c.from_residual.ensures.1 c.in_err-ready_unless_refused.ensures.answer
    (ran m (g.D.Reader.medium c.spin_up.new.self) (g.D.Reader.medium c.write_new-written.new.drive) t c.write_new-written.result c.spin_up.ensures (ap g.D.Reader.medium c.ready_unless_refused.ensures.drive) c.write_new-written.ensures)
    c.ready_unless_refused.ensures.kept in
    record { done = d; value = planned (format_plan (length m.pages)) (spun_up m) k c.from_residual.result t l d; steady = format_value m k c.from_residual.result t l (omega arith) d; new = search rules }

pub returns : goal.returns
returns g c =
    let m : Medium = g.D.Reader.medium c.args.self.now.drive in
    let t : Medium = g.D.Reader.medium c.ready_unless_refused.new.self.drive in
    let k : PackRecord = c.args.self.now.kept in
    let l : PackRecord = record { ready = true; highest = 1; bits = c.new_bits.result } in
    let same = ap (λ (x : Medium). length x.pages) c.spin_up.ensures in
    let n : 24 * c.cylinders-cylinders.result.count ≡ length m.pages = omega (arith, c.cylinders-cylinders.ensures.pages) in
    let cylinders : c.cylinders-cylinders.result.count ≡ m.cylinders = c.cylinders-cylinders.ensures.count ∙ ap (λ (x : Medium). x.cylinders) c.spin_up.ensures in
    let kept : l ≡ new_record (length m.pages) =
    ap (λ (ws : List ℕ). record { ready = true; highest = 1; bits = record { words = ws } }) (c.new_bits.ensures ∙ ap (λ (k : ℕ). free_all (new_free k) none_free) n) in
    let d : Done (format_plan (length m.pages)) (spun_up m) k (Ok tt) t l =
    done_well (format_writes (length m.pages)) tt (new_record (length m.pages)) k l (spun_up m) t c.write_new-written.result tt tt refl c.in_ok-ready_unless_refused.ensures.answer
    (ran m (g.D.Reader.medium c.spin_up.new.self) (g.D.Reader.medium c.write_new-written.new.drive) t c.write_new-written.result c.spin_up.ensures (ap g.D.Reader.medium c.ready_unless_refused.ensures.drive) c.write_new-written.ensures)
    kept in
    let sized : Sized (spun_up m) = record { least = rw cylinders at c.cylinders-cylinders.result.fits.0; most = rw cylinders at c.cylinders-cylinders.result.fits.1; pages = sym n ∙ ap (λ (k : ℕ). 24 * k) cylinders } in
    record { done = d; value = planned (format_plan (length m.pages)) (spun_up m) k (Ok tt) t l d; steady = format_value m k (Ok tt) t l (omega arith) d; new = new_from (spun_up m) k (Ok tt) t l sized d }
