use Rattle.std.proofs.Common.{rules, arith, ◌≡◌, ◌∙◌, ◌-◌}
use borrow.Author.Tests.{tests}
use lib.Count.{ones}
use Rattle.std.specs.List.{sum_by}
use Rattle.std.proofs.iter.runs.Made.{chains}
use Rattle.std.proofs.lemmas.Iterator.{YieldsList-from_slice}
use Rattle.std.proofs.lemmas.Iterator.Adapters.{fits_from_length, at_most_from_yields_List}
use Rattle.bits.proofs.Tables.{zeros_are}
use Rattle.bits.proofs.BitTable.zeros.Goals as goal

-- As in `ones`: one lemma over any closure was tried, and its use here did not close.
pub sum-requires-clause-fits : goal.sum-requires-clause-fits
sum-requires-clause-fits c =
    fits_from_length _ _ 609 _ (at_most_from_yields_List (YieldsList-from_slice c.args.self.now.words cc) (grind arith)) c.map.ensures.closure (omega arith) (λ x r q k. search (rules, tests))

pub returns : goal.returns
returns c =
    let s : c.sum.result ≡ sum_by (λ w. ones (65535 - w)) c.args.self.now.words = search (rules, chains) in
    s ∙ zeros_are c.args.self.now.words (λ i h. search rules)
