use Rattle.std.proofs.Common.{◌≡◌}
use Rattle.survey.specs.Steps.{Scanned, Listed}
use Rattle.survey.proofs.scan.scan.Given as goal

abbrev pub invariant-loop-page : goal.invariant-loop-page
invariant-loop-page g l =
    (g.R.Reader.medium l.reader ≡ g.R.Reader.medium l.initial.reader)
    × Scanned (g.R.Reader.medium l.initial.reader).pages l.page l.table
    × Listed (g.R.Reader.medium l.initial.reader).pages l.page l.leaders.items
