use Rattle.std.proofs.Common.{rules, ◌≤◌, length}
use Rattle.tc_explore.proofs.Parking.{parked_next, stuck_end}
use Rattle.tc_explore.proofs.findings.with_stuck.Goals as goal

pub loop-run-preserved : goal.loop-run-preserved
loop-run-preserved c = (
  c.in_ok-course.ensures.on,
  λ held. parked_next c.args.scripts.now c.args.course c.loop-run.course c.in_ok-course.course c.loop-run.run c.requires.some c.requires.opened held c.loop-run.invariant.0 (c.loop-run.invariant.1 held) c.in_ok-course.ensures.parked,
)

pub returns-clause-over : goal.returns-clause-over
returns-clause-over c held =
    let whole : length c.args.scripts.now ≤ c.loop-run.run = search rules in
    (stuck_end c.args.scripts.now c.args.course c.loop-run.course c.in_ok-ended.ended c.loop-run.run c.requires.some whole c.requires.opened c.loop-run.invariant.0 (c.loop-run.invariant.1 held) c.in_ok-ended.ensures.stepped).over

pub returns-clause-error : goal.returns-clause-error
returns-clause-error c held =
    let whole : length c.args.scripts.now ≤ c.loop-run.run = search rules in
    (stuck_end c.args.scripts.now c.args.course c.loop-run.course c.in_ok-ended.ended c.loop-run.run c.requires.some whole c.requires.opened c.loop-run.invariant.0 (c.loop-run.invariant.1 held) c.in_ok-ended.ensures.stepped).error

pub returns-clause-main : goal.returns-clause-main
returns-clause-main c held =
    let whole : length c.args.scripts.now ≤ c.loop-run.run = search rules in
    (stuck_end c.args.scripts.now c.args.course c.loop-run.course c.in_ok-ended.ended c.loop-run.run c.requires.some whole c.requires.opened c.loop-run.invariant.0 (c.loop-run.invariant.1 held) c.in_ok-ended.ensures.stepped).main
