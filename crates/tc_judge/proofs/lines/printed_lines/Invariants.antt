use Rattle.std.proofs.Common.{◌≡◌, ◌++◌, drop}
use Rattle.tc_judge.specs.Inside.{is_picked, printed}
use Rattle.tc_judge.proofs.lines.printed_lines.Given as goal

-- what is printed so far, and what is printed for the rest, is all
abbrev pub invariant-loop-block : goal.invariant-loop-block
invariant-loop-block g l = l.out.items ++ printed (is_picked l.only l.failed) (drop l.block-index l.blocks) ≡ printed (is_picked l.only l.failed) l.blocks
