use Rattle.tc_step.proofs.step.Step.is_bound.Goals as goal

pub returns-in-Start : goal.returns-in-Start
returns-in-Start c = rw c.in-Start.is c.is_start_bound.ensures
