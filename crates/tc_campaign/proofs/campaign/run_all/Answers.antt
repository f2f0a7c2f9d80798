use Rattle.std.proofs.Common.{rules, ap, sym, ◌∙◌, length, arith}
use Rattle.tc_campaign.proofs.Going.{going_more, going_none, was_complete, was_cut, was_refused, was_stopped}
use Rattle.tc_campaign.proofs.campaign.run_all.Goals as goal

pub loop-case-init : goal.loop-case-init
loop-case-init g c = (tt, tt, search rules, going_none _ _ _ _ _ _ _ (search rules))

pub loop-case-preserved : goal.loop-case-preserved
loop-case-preserved g c = (
  tt,
  tt,
  omega (arith, c.in-Some.ensures.steps.1, ap length c.in-Some.ensures.steps.0),
  going_more _ _ _ _ _ _ _ _ _ _ _ c.loop-case.invariant.3 c.in-Some.ensures.steps.0 c.in-GoesOn.ensures,
)

pub returns-in-Stops : goal.returns-in-Stops
returns-in-Stops g c = was_stopped _ _ _ _ _ _ _ _ _ _ _ c.loop-case.invariant.3 c.in-Some.ensures.steps.0 _ c.in-Stops.ensures

pub returns-in-Refused : goal.returns-in-Refused
returns-in-Refused g c = was_refused _ _ _ _ _ _ _ _ _ _ _ c.loop-case.invariant.3 c.in-Some.ensures.steps.0 _ c.in-Refused.ensures

pub returns-in-CutShort : goal.returns-in-CutShort
returns-in-CutShort g c = was_cut _ _ _ _ _ _ _ _ _ _ _ c.loop-case.invariant.3 c.in-Some.ensures.steps.0 c.in-CutShort.ensures

pub returns : goal.returns
returns g c = was_complete _ _ _ _ _ _ _ _ c.loop-case.invariant.3 (sym c.loop-case.invariant.2 ∙ c.in-None.ensures.steps.0)
