use Rattle.std.proofs.Common.{arith, rules}
use Rattle.tc_model.proofs.Giving.{all_given_more}
use Rattle.tc_model.proofs.given.give_all.Goals as goal

pub loop-lack-preserved : goal.loop-lack-preserved
loop-lack-preserved c =
    all_given_more _ _ c.lack-item.result _ _ _ c.loop-lack.invariant (search rules) c.lack-item.is (omega arith) (omega arith)
