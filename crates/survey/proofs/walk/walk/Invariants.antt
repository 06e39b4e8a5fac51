use Rattle.std.proofs.Common.{◌≡◌, length}
use Rattle.disk.specs.Addresses.{page_named}
use Rattle.survey.proofs.Marking.{Walking, ahead}
use Rattle.survey.proofs.walk.walk.Given as goal

abbrev pub invariant-loop-next : goal.invariant-loop-next
invariant-loop-next g l =
    (g.R.Reader.medium l.reader ≡ g.R.Reader.medium l.initial.reader)
    × Walking (page_named l.cylinders.count) (g.R.Reader.medium l.initial.reader).pages l.leader.page l.next l.initial.table l.table

abbrev pub decreases-loop-next : goal.decreases-loop-next
decreases-loop-next g l = length (ahead (page_named l.cylinders.count) (g.R.Reader.medium l.initial.reader).pages l.next)
