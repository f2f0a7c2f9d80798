use Rattle.tc_exec.proofs.Lemmas.Taking.{done_more}
use Rattle.tc_answer.proofs.choosing.cases_of.Goals as goal

pub loop-name-preserved : goal.loop-name-preserved
loop-name-preserved c = done_more _ _ _ _ _ _ _ _ c.loop-name.invariant c.in-Some.ensures c.in_ok-case_of.ensures c.in_ok-push.ensures.items
