use Rattle.std.proofs.Common.{◌≡◌, take}
use Rattle.survey.specs.Laws.{all_of}
use Rattle.survey.specs.Verdicts.{totals}
use Rattle.survey.proofs.count.total.Given as goal

abbrev pub invariant-loop-record : goal.invariant-loop-record
invariant-loop-record l = (l.all ≡ totals (take l.record-index l.table)) × (all_of l.all ≡ l.record-index)
