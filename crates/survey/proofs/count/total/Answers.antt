use Rattle.std.proofs.Common.{get_or, ap, sym, ◌∙◌, arith}
use Rattle.survey.specs.Laws.{all_of}
use Rattle.survey.specs.Verdicts.{counted}
use Rattle.survey.specs.Steps.{no_record}
use Rattle.survey.proofs.Counting.{totals_more, sum_counted}
use Rattle.survey.proofs.count.total.Goals as goal

pub loop-record-preserved : goal.loop-record-preserved
loop-record-preserved c =
    let v = (get_or c.args.table.now c.loop-record.record-index no_record).verdict in
    let more = totals_more c.args.table.now c.loop-record.record-index no_record c.loop-record-test.true in
    let one = sum_counted v c.loop-record.all in
    let all = ap all_of c.count.ensures in
    (c.count.ensures ∙ (ap (counted v) c.loop-record.invariant.0 ∙ sym more), omega arith)
