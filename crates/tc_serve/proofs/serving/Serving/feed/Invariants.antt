use Rattle.std.proofs.Common.{length}
use Rattle.tc_serve.proofs.Feeding.{IsTakenTo}
use Rattle.tc_serve.proofs.serving.Serving.feed.Given as goal

abbrev pub invariant-loop-rest : goal.invariant-loop-rest
invariant-loop-rest l = IsTakenTo l.bytes l.rest l.fn.self l.self l.fn.texts.out.items l.texts.out.items l.fn.texts.told.items l.texts.told.items

abbrev pub decreases-loop-rest : goal.decreases-loop-rest
decreases-loop-rest l = length l.rest
