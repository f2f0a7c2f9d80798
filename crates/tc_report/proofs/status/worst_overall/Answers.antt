use Rattle.tc_report.proofs.Overalls.{worst_of_more}
use Rattle.tc_report.proofs.status.worst_overall.Goals as goal

pub loop-case-preserved : goal.loop-case-preserved
loop-case-preserved c =
    let e = worst_of_more c.args.cases.now c.loop-case.case-index c.case-item.result c.loop-case-test.true in
    cc
