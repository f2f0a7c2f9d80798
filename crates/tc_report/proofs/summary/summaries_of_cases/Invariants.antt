use Rattle.std.proofs.Common.{◌≡◌, map, take}
use Rattle.tc_report.specs.Summary.{case_summary}
use Rattle.tc_report.proofs.summary.summaries_of_cases.Given as goal

abbrev pub invariant-loop-case : goal.invariant-loop-case
invariant-loop-case l = l.summaries.items ≡ map case_summary (take l.case-index l.cases)
