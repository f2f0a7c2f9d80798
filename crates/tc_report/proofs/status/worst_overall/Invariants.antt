use Rattle.std.proofs.Common.{◌≡◌, map, take}
use Rattle.tc_report.specs.{Status.worst_of, Summary.case_summary}
use Rattle.tc_report.proofs.status.worst_overall.Given as goal

abbrev pub invariant-loop-case : goal.invariant-loop-case
invariant-loop-case l = l.worst ≡ worst_of (map case_summary (take l.case-index l.cases))
