use Rattle.std.proofs.Common.{arith}
use Rattle.tc_rules.proofs.Lemmas.Decided.{decided_all, decided_more}
use Rattle.tc_rules.proofs.deciding.deciding_entry.Goals as goal

pub loop-at-preserved : goal.loop-at-preserved
loop-at-preserved c =
    let before = c.loop-at.invariant in
    let more = decided_more c.args.history.now c.loop-at.at c.index-history-at.result c.loop-at.worst c.next_local-after.result c.loop-at.deciding c.later_deciding-deciding.result
    (omega arith) c.index-history-at.is before.worst_is before.place_is before.within c.next_local-after.ensures c.later_deciding-deciding.ensures in
    record { worst_is = more.0; place_is = more.1; within = more.2 }

pub returns-clause-decides : goal.returns-clause-decides
returns-clause-decides c = decided_all c.args.history.now c.loop-at.at c.loop-at.deciding (omega arith) c.loop-at.invariant.place_is
