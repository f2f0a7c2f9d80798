use Rattle.tc_report.proofs.Overalls.{worst_counted_more}
use Rattle.tc_report.proofs.status.worst_of.Goals as goal

pub loop-case-preserved : goal.loop-case-preserved
loop-case-preserved c =
    let e = worst_counted_more c.args.cases.now c.loop-case.case-index c.case-item.result c.loop-case-test.true in
    cc
