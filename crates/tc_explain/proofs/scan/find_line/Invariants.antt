use Rattle.std.proofs.Common.{◌≡◌}
use Rattle.tc_reader.specs.Prelude.{lines}
use Rattle.tc_explain.specs.{Explanation.find, declared.scan.Opened.Opened}
use Rattle.tc_explain.proofs.scan.find_line.Given as goal

abbrev pub invariant-loop-number : goal.invariant-loop-number
invariant-loop-number l = find l.wanted l.number l.opened l.rest ≡ find l.wanted 1 Opened.Nothing (lines l.text)
