use Rattle.tc_model.proofs.Taking.{AreLeft}
use Rattle.tc_model.proofs.certified.are_models.Given as goal

abbrev pub invariant-loop-attempt : goal.invariant-loop-attempt
invariant-loop-attempt l = AreLeft l.attempts l.attempt-index l.campaign l.fn.campaign
