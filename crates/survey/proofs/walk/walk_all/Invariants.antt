use Rattle.std.proofs.Common.{◌≡◌, take}
use Rattle.disk.specs.Addresses.{page_named}
use Rattle.survey.specs.Steps.{MarkedAll}
use Rattle.survey.proofs.walk.walk_all.Given as goal

abbrev pub invariant-loop-leader : goal.invariant-loop-leader
invariant-loop-leader g l =
    (g.R.Reader.medium l.reader ≡ g.R.Reader.medium l.initial.reader)
    × MarkedAll (page_named (g.R.Reader.medium l.initial.reader).cylinders) (g.R.Reader.medium l.initial.reader).pages (take l.leader-index l.leaders) l.initial.table l.table
