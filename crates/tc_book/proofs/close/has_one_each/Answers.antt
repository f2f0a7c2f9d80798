use Rattle.std.proofs.Common.{below_more, rules}
use Rattle.tc_book.proofs.close.has_one_each.Goals as goal

pub loop-run-preserved : goal.loop-run-preserved
loop-run-preserved c = below_more _ _ c.loop-run.invariant (search rules)
