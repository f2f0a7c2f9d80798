use Rattle.std.proofs.Common.{◌≡◌, ◌++◌, take}
use Rattle.tc_report.specs.Report.{local_lines}
use Rattle.tc_report.proofs.report.append_locals.Given as goal

abbrev pub invariant-loop-comp : goal.invariant-loop-comp
invariant-loop-comp l = l.out.items ≡ l.fn.out.items ++ local_lines (take l.comp l.locals)
