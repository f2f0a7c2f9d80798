use Rattle.std.proofs.Common.{rules, ◌≡◌, length, sym, subst}
use Rattle.tc_explore.{specs.Inside.Seen.IsCalm, proofs.Searching.{same_length, stands_then}}
use Rattle.tc_explore.proofs.calm.calmed.Goals as goal

pub loop-preserved : goal.loop-preserved
loop-preserved c = (
  c.in_ok-course.ensures.opened,
  stands_then c.args.scripts.now c.args.course c.loop.course c.in_ok-course.course c.loop.invariant.1 c.in_ok-course.ensures.stands,
  c.in_ok-course.ensures.verdict,
)

pub returns-then-history-called-clause-state : goal.returns-then-history-called-clause-state
returns-then-history-called-clause-state c =
    let is = c.in_ok-course.ensures in
    let size : length c.in_ok-course.course.history ≡ length c.loop.course.history = search rules in
    let same = same_length c.args.scripts.now c.loop.course c.in_ok-course.course is.stands size in
    record { opened = is.opened; calm = subst (IsCalm c.args.scripts.now) (sym same) (is.calm same); within = is.verdict }

pub returns-then-history-called-clause-stands : goal.returns-then-history-called-clause-stands
returns-then-history-called-clause-stands c =
    stands_then c.args.scripts.now c.args.course c.loop.course c.in_ok-course.course c.loop.invariant.1 c.in_ok-course.ensures.stands
