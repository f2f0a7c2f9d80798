use Rattle.std.proofs.Common.{[], length}
use Rattle.tc_text.specs.Prelude.{TellsAmong}
use Rattle.tc_explain.proofs.telling.append_lines.Given as goal

abbrev pub invariant-loop-line : goal.invariant-loop-line
invariant-loop-line l = TellsAmong [] l.fn.out.items l.out.items

abbrev pub decreases-loop-line : goal.decreases-loop-line
decreases-loop-line l = length l.rest
