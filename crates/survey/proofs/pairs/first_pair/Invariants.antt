use Rattle.std.proofs.Common.{◌≡◌, drop}
use Rattle.survey.specs.Steps.{pair_of}
use Rattle.survey.proofs.pairs.first_pair.Given as goal

abbrev pub invariant-loop-i : goal.invariant-loop-i
invariant-loop-i l = pair_of l.table (drop l.i l.pages) ≡ pair_of l.table l.pages
