use Rattle.std.proofs.Common.{subst}
use Rattle.tc_rules.specs.Prelude.{past_of}
use Rattle.tc_course.proofs.Lemmas.{below_more}
use Rattle.tc_explore.{specs.Inside.Seen.IsCalmAt, proofs.Searching.{same_between, stands_then}}
use Rattle.tc_explore.proofs.calm.calmed_once.Goals as goal

pub loop-run-preserved : goal.loop-run-preserved
loop-run-preserved c =
    let scripts = c.args.scripts.now in
    let t = c.args.course in
    let u = c.loop-run.course in
    let was = c.loop-run.invariant in
    let is = c.in_ok-course.ensures in (
      is.opened,
      stands_then scripts t u c.in_ok-course.course was.1 is.stands,
      λ same. below_more (IsCalmAt scripts (past_of t)) c.loop-run.run (was.2 (same_between scripts t u c.in_ok-course.course was.1 is.stands same)) (subst (λ p. IsCalmAt c.args.scripts.now p c.loop-run.run) same is.calm),
      is.verdict,
    )
