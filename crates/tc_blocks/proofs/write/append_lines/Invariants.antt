use Rattle.std.{proofs.Common.{◌≡◌, ◌++◌, take}, specs.List.flat_map}
use Rattle.tc_blocks.specs.{Block.with_lf, Line.line_text}
use Rattle.tc_blocks.proofs.write.append_lines.Given as goal

abbrev pub invariant-loop-line : goal.invariant-loop-line
invariant-loop-line l = l.out.items ≡ l.fn.out.items ++ flat_map (λ x. with_lf (line_text x)) (take l.line-index l.lines)
