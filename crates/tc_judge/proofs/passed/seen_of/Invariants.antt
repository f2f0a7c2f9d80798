use Rattle.std.proofs.Common.{take}
use Rattle.tc_judge.specs.Inside.{HasSeen}
use Rattle.tc_judge.proofs.passed.seen_of.Given as goal

abbrev pub invariant-loop-block : goal.invariant-loop-block
invariant-loop-block l = HasSeen (take l.block-index l.blocks) l.seen
