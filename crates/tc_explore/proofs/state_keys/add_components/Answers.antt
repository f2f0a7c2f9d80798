use Rattle.tc_rules.specs.Prelude.{past_of}
use Rattle.tc_course.proofs.Lemmas.{next_of}
use Rattle.tc_explore.specs.Inside.Twins.{comp_key}
use Rattle.tc_explore.proofs.state_keys.add_components.Goals as goal

pub loop-comp-preserved : goal.loop-comp-preserved
loop-comp-preserved c = next_of (comp_key c.args.locals (past_of c.args.course.now)) c.loop-comp.comp _ _ _ c.loop-comp.invariant c.in_ok-add_component.ensures
