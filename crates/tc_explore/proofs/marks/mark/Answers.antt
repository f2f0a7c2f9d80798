use Rattle.tc_explore.proofs.Marking.{padded_more}
use Rattle.tc_explore.proofs.marks.mark.Goals as goal

pub loop-found-preserved : goal.loop-found-preserved
loop-found-preserved c = rw c.in_ok-push.ensures.items (padded_more c.args.found.now.items c.loop-found.found.items c.loop-found.invariant)
