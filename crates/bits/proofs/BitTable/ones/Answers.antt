use Rattle.std.proofs.Common.{rules, arith}
use borrow.Author.Tests.{tests}
use Rattle.std.proofs.lemmas.Iterator.{YieldsList-from_slice}
use Rattle.std.proofs.lemmas.Iterator.Adapters.{fits_from_length, at_most_from_yields_List}
use Rattle.bits.proofs.BitTable.ones.Goals as goal

-- As in `zeros`: one lemma over any closure was tried, and its use here did not close.
pub sum-requires-clause-fits : goal.sum-requires-clause-fits
sum-requires-clause-fits c =
    fits_from_length _ _ 609 _ (at_most_from_yields_List (YieldsList-from_slice c.args.self.now.words cc) (grind arith)) c.map.ensures.closure (omega arith) (λ x r q k. search (rules, tests))
