use Rattle.std.proofs.Common.{◌-◌, ◌≤◌}
use Rattle.bits.specs.Bits.{AllTaken}
use Rattle.bits.proofs.BitTable.first_free.Given as goal

-- No page that was passed is free.
abbrev pub invariant-loop-p : goal.invariant-loop-p
invariant-loop-p l = (l.a ≤ l.p) × AllTaken l.self.words l.a l.p

abbrev pub decreases-loop-p : goal.decreases-loop-p
decreases-loop-p l = l.b - l.p
