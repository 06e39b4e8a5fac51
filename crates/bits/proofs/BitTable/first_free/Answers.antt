use Rattle.std.proofs.Common.{arith}
use Rattle.bits.proofs.Searches.{passed}
use Rattle.bits.proofs.BitTable.first_free.Goals as goal

pub loop-p-preserved : goal.loop-p-preserved
loop-p-preserved c =
    (omega arith, passed c.args.self.now.words c.args.a c.loop-p.p c.ones_from-n.result c.loop-p.invariant.1 c.ones_from-n.ensures)
