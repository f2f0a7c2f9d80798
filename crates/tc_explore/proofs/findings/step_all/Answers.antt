use Rattle.tc_explore.proofs.LastCalls.{over_more}
use Rattle.tc_explore.proofs.findings.step_all.Goals as goal

pub loop-run-preserved : goal.loop-run-preserved
loop-run-preserved c = (
  c.in_ok-course.ensures.on,
  over_more c.args.scripts.now c.args.course c.loop-run.course c.in_ok-course.course c.loop-run.run c.loop-run.invariant.0 c.loop-run.invariant.1 c.in_ok-course.ensures.stepped,
)
