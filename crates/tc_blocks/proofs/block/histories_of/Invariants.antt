use Rattle.std.proofs.Common.{◌≡◌, map, take}
use Rattle.tc_blocks.specs.Laws.{history_of}
use Rattle.tc_blocks.proofs.block.histories_of.Given as goal

abbrev pub invariant-loop-block : goal.invariant-loop-block
invariant-loop-block l = l.histories.items ≡ map history_of (take l.block-index l.blocks)
