use Rattle.std.proofs.Common.{◌-◌}
use Rattle.std.specs.List.{range_with_len}
use Rattle.disk.specs.Addresses.{page_named, real_address}
use Rattle.ledger.specs.Runs.{Through}
use Rattle.ledger.specs.Mends.{gathered, mend_at}
use Rattle.pack.proofs.mend.mend.Given as goal

abbrev pub invariant-loop-page : goal.invariant-loop-page
invariant-loop-page g l =
    Through (gathered (mend_at (page_named (g.D.Reader.medium l.fn.drive).cylinders) real_address (g.D.Reader.medium l.fn.drive).pages) (range_with_len 1 (l.page - 1))) (g.D.Reader.medium l.fn.drive) (g.D.Reader.medium l.drive)
