use Rattle.std.proofs.Common.{◌≡◌, ◌++◌, take}
use Rattle.tc_report.specs.Junit.{case_elements}
use Rattle.tc_report.proofs.junit.append_elements.Given as goal

abbrev pub invariant-loop-at : goal.invariant-loop-at
invariant-loop-at l = l.out.items ≡ l.fn.out.items ++ case_elements l.suite l.times (take l.at l.cases)
