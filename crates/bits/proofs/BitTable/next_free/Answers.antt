use Rattle.std.proofs.Common.{rules}
use Rattle.bits.proofs.Searches.{round_is}
use Rattle.bits.proofs.BitTable.next_free.Goals as goal

pub returns : goal.returns
returns c =
    let f = round_is c.args.self.now.words c.start_page-first.result c.min-end.result _ c.first_free.result c.or_else.result c.first_free.ensures c.or_else.ensures (λ q. search rules) in
    cc
