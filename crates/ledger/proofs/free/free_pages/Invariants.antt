use Rattle.std.proofs.Common.{◌-◌, length, take}
use Rattle.ledger.specs.Runs.{Through, freed_all}
use Rattle.ledger.proofs.free.free_pages.Given as goal

-- the pages below this one are freed
abbrev pub invariant-loop-page : goal.invariant-loop-page
invariant-loop-page g l = Through (take (l.page - 1) (freed_all (length (g.D.Reader.medium l.initial.drive).pages))) (g.D.Reader.medium l.initial.drive) (g.D.Reader.medium l.drive)
