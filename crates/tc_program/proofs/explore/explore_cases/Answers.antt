use Rattle.std.proofs.{Common.{rules, ◌∙◌, ap, All, arith, length, subst, sym}, lemmas.List.{Elements.{All-head, All-tail}, nil_from_length}}
use Rattle.tc_exec.proofs.Lemmas.Taking.{done_more}
use Rattle.tc_judge.specs.Inside.{HasFewJobs}
use Rattle.tc_program.proofs.Exploring.{done_all, done_start}
use Rattle.tc_program.proofs.explore.explore_cases.Goals as goal

pub loop-case-init : goal.loop-case-init
loop-case-init c = (tt, tt, search rules, done_start _ _ _ _ (search rules) c.new-explored.ensures.items, search rules)

pub loop-case-preserved : goal.loop-case-preserved
loop-case-preserved c =
    let next = c.in-Some.ensures.steps in
    let few = subst (All HasFewJobs) next.0 c.loop-case.invariant.4 in (
      tt,
      tt,
      omega (arith, next.1, ap length next.0),
      done_more _ _ _ _ _ _ _ _ c.loop-case.invariant.3 next.0 c.in_ok-explore_case.ensures c.in_ok-push.ensures.items,
      All-tail HasFewJobs _ _ few,
    )

pub explore_case-requires : goal.explore_case-requires
explore_case-requires c = All-head HasFewJobs _ _ (subst (All HasFewJobs) c.in-Some.ensures.steps.0 c.loop-case.invariant.4)

pub returns : goal.returns
returns c = done_all _ _ _ _ c.loop-case.invariant.3 (nil_from_length _ (sym c.loop-case.invariant.2 ∙ c.in-None.ensures.steps.0))
