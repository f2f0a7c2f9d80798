use Rattle.std.proofs.Common.{◌≡◌, ◌++◌, take}
use Rattle.tc_blocks.specs.Line.{entries_of}
use Rattle.tc_blocks.proofs.block.add_entries.Given as goal

abbrev pub invariant-loop-line : goal.invariant-loop-line
invariant-loop-line l = l.entries.items ≡ l.fn.entries.items ++ entries_of (take l.line-index l.lines)
